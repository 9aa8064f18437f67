-- A value of no bytes, whose list the walk makes empty.
use Rattle.bitstream_order.proofs.Steps.{[], ◌∷◌, refl, proved, vunit, vstruct, vcons, vnil, Val, raw, ◌$◌, ◌∵◌, !, qed, done, keep, join, suffices, enter, unit_lit, and_then, no_more, returns, agg, alloc_all, pass_all, free_all, look_at, sets, pure_i, nothing, on_entry, Stays, walk_of, says, ends_at}
use Rattle.bitstream_format.specs.declared.summed.taken.TakenBytes.{TakenBytes}
use Rattle.bitstream_format.specs.contracts.summed.taken.TakenBytes.new as f
use Rattle.bitstream_format.specs.contracts.summed.taken.TakenBytes.{the_row as R}
use Rattle.bitstream_format.proofs.summed.taken.TakenBytes.new.Statement.{statement}
use Rattle.bitstream_format.proofs.summed.taken.TakenBytes.new.Code as code

abbrev stayed : Stays f.ended.signature.params f.ended.kept
stayed = tt

abbrev made : TakenBytes
made = record { seal = tt; list = [] }

abbrev v : Val
v = vstruct (vcons vunit vnil)

pub new_spec : {M : Type 1} → statement M
new_spec 𝓤 𝓛 𝓜 𝓡 wired =
    let c = f.clauses 𝓛 𝓜.mem 𝓡.returns in let W = walk_of 𝓛 f.ended stayed c in
    proved 𝓛 f.ended stayed c 𝓜 𝓡 tt
    f.Key.name code.function (code.unfolded 𝓤 𝓛.H 𝓜 𝓡 wired)
    (λ κs. tt) (λ κs. tt) (λ κs qs bounds a g are.
    let y : W.Ghost = ((κs, qs, bounds, a, tt), g) in
    qed 𝓛 (raw (on_entry 𝓛 f.signature κs qs a tt) ∷ raw ((c κs a).requires g) ∷ []) ∵ keep ! [] $
    enter ! _ _ _ _ _ $ alloc_all ! (λ l. pass_all ! refl tt $
    sets ! (agg ! (and_then ! (unit_lit !) (no_more !))) refl (tt, (tt, tt)) $
    returns ! (look_at ! 0 refl) $ free_all ! refl $
    pure_i ! (R.own_val made (v ∷ [])) ((λ vss. (tt, (tt, tt))), tt) (((vunit ∷ [], tt), (refl, (refl, tt))), tt) $
    suffices ! _ (ends_at 𝓛 f.ended stayed c y v made tt tt) $ says ! refl $
    nothing ! $ join ! $ nothing ! $ done !))
