-- A function that has its `&mut self` lend a part, if at all, by one call, and makes something of the part by another,
-- which holds the reference by its name: it is there where the part was lent, and the lender follows the part.
--     Passes       the function's code
--     lending, making, passing      what the one call does, what the other does, and what the function does
--     walk         the walk
-- Assumes `Logic`.
use Rattle.std.proofs.Common.{◌≡◌, ℕ, List, [], ◌∷◌, refl, sym}
use Rattle.std.proofs.raw_atomic.Walks.{leaves}
use Rattle.std.proofs.option.Option.TheLaws.{the_row_laws as option_laws}
use Rattle.std.specs.Prelude.{◌↔◌, IsSome, IfSome}
use Rattle.std.specs.contracts.option.Option.{the_row as OptionOf}
use Rattle.std.specs.Option.{ghost_name_of}
use Rattle.std.specs.Borrow.{GName, follows_if, name_if_some}
use Rattle.bitstream_stream.proofs.LentLemmas.{still_said, still_there}
use base.Fml.{Fml, fsep, ftrue, flft}
use base.Logic.{SProp, ent, emp, id⊢, sep}
use contract.BorrowLft.{◌⊑◌}
use contract.Lifetimes.{Lfts, Shares, AllOutlive}
use contract.Monad.{fact, fact_i}
use contract.Running.{Running, tables}
use denote.Exit.{no}
use denote.Laws.{Is, shows}
use denote.Param.Laws.{Laws, is_one, of_field, row_shared}
use denote.Param.Shared.{mut_ref_shared}
use denote.RattleType.{RattleType}
use denote.Ref.{MutBor, MutRef, NamedLft, mut_vals}
use denote.Signature.{Slot, mut_ref_to, named_lft, plain, type_at}
use denote.Struct.Field.{mut_ref_field}
use denote.Struct.Laws.{mut_ref_laws}
use denote.Steps.{heard, nothing, peeks}
use denote.Triple.Call.{calls_at}
use denote.Triple.Clauses.{Clauses, Ended, Lasts, closing, lasts}
use denote.Triple.Entry.{on_entry}
use denote.Triple.Spec.{triple_of}
use denote.Triple.Statement.{Contract, Triple}
use denote.Triple.Table.{framed}
use denote.Triple.Walked.{Stays, walk_of, stay_dropped}
use lib.Dec.{T}
use mathlib.Core.Option as maybe
use mir.Syntax.{Callee, Fn, Kind, Lifetime, Ty, addr_of, assign, call, copy, deref, local, mut, named, place, return, seq, ty_ref, value_local}
use mir.Val.{Val, WT, has_ty, vptr}
use prog.Model.{Model}
use prog.Wp.{WpFn}
use seplogic.Ra.Ura.{Ura}
use types.ByLocal.{alloc_all, pass_all, free_all, look_at, get, through, sets, lands_as}
use types.Kit.{‵, raw, ◌⊛◌, some, later, ◌$◌, ◌∵◌, !, qed, by, move, keep, use0, use1, drop, fjoin, split, join, pick, await, rewrite}
use types.Logic.{Logic, sem}
use types.Run.{enter, addr, stop, no_more, and_then, returns}

-- the code: the reference is lent again, and passed from call to call
abbrev pub Passes : (lifetimes : ℕ) (outlives : List (ℕ × ℕ)) (kinds : List Kind) (givens : ℕ)
    (lends makes : Callee) (ℓ ℓ' : Lifetime) (whole whole' pointed part made : Ty) → Fn
Passes lifetimes outlives kinds givens lends makes ℓ ℓ' whole whole' pointed part made = record {
  lifetimes = lifetimes;
  outlives = outlives;
  ty_params = kinds;
  givens = givens;
  params = 1;
  locals = local made value_local ∷ local (ty_ref ℓ mut whole) value_local ∷ local part value_local ∷ local
      (ty_ref ℓ' mut whole') value_local ∷ [];
  body = seq (assign (place 3 []) (addr_of (place 1 (deref pointed ∷ []))))
      (seq (call lends (copy (place 3 []) ∷ []) (place 2 []))
      (seq (call makes (copy (place 2 []) ∷ []) (place 0 [])) return));
}

module _ (X Y R Whole : RattleType) (Made : Lfts 3 → RattleType) where
  abbrev self : Slot 3
  self = mut_ref_to (0 ∷ []) tt (plain (λ κs. Whole))

  abbrev Part : Lfts 3 → RattleType
  Part κs = OptionOf (type_at {n = 3} (mut_ref_to (0 ∷ []) tt (plain (λ κs. R))) κs)

  abbrev pub part_laws : Laws R → (κs : Lfts 3) → Laws (Part κs)
  part_laws L κs = let a : NamedLft = named_lft 3 0 tt κs in
      option_laws (MutRef (named 0) κs.0 R) (of_field (mut_ref_field a R (is_one R L)) (mut_ref_laws a R (is_one R L))
      refl (mut_ref_shared a R (is_one R L) (row_shared R L)))

  abbrev Out : Lfts 3 → RattleType
  Out κs = OptionOf (Made κs)

  abbrev lends : Ended
  lends = record {
    signature = record {
      lifetimes = 3;
      outlives =
          record { long = 1; long_ok = tt; short = named 0; short_ok = tt } ∷ record {
            long = 2;
            long_ok = tt;
            short =
                named 0;
            short_ok = tt;
          } ∷ [];
      params = self ∷ [];
      result = plain Part;
    };
    kept = (no, tt);
  }

  abbrev makes : Ended
  makes = record {
    signature = record {
      lifetimes = 3;
      outlives =
          record { long = 1; long_ok = tt; short = named 0; short_ok = tt } ∷ [];
      params = plain Part ∷ [];
      result =
          plain Out;
    };
    kept = (no, tt);
  }

  abbrev pub passes : Ended
  passes = record {
    signature = record {
      lifetimes = 3;
      outlives =
          record { long = 1; long_ok = tt; short = named 0; short_ok = tt } ∷ record {
            long = 2;
            long_ok = tt;
            short =
                named 0;
            short_ok = tt;
          } ∷ [];
      params = self ∷ [];
      result = plain Out;
    };
    kept = (no, tt);
  }

  abbrev pub stayed : Stays passes.signature.params passes.kept
  stayed = (stay_dropped self no, tt)

  module _ (There : Whole.Denot → Type 0) (part : Whole.Denot → R.Denot) (with_part : Whole.Denot → R.Denot
      → Whole.Denot)
      (name : (κs : Lfts 3) → (Made κs).Denot → GName) (Said : (κs : Lfts 3) → (Made κs).Denot → R.Denot → Type 0)
      {M : Type 1} {𝓤 : Ura M} (𝓛 : Logic 𝓤) where
    abbrev within : Lfts 3 → SProp 𝓤
    within κs = sep 𝓤 (fact 𝓤 (κs.1.0 ⊑ X.lives)) (sep 𝓤 (fact 𝓤 (κs.1.1.0 ⊑ Y.lives)) (emp 𝓤))

    abbrev lending : Clauses 𝓤 lends
    lending = λ κs a. record {
      ghost = Unit {0};
      requires = λ g. within κs;
      ensures = λ g r e. sep 𝓤 (fact 𝓤 (IsSome r ↔ There a.0.now))
          (sep 𝓤 (fact 𝓤 (IfSome r (λ s. s.now ≡ part a.0.now)))
          (sem 𝓛 (follows_if Whole R a.0.ghost_name (ghost_name_of r) (with_part a.0.now) a.0.now)));
    }

    abbrev making : Clauses 𝓤 makes
    making = λ κs a. record {
      ghost = Unit {0};
      requires = λ g. within κs;
      ensures = λ g m e. sep 𝓤 (fact 𝓤 (name_if_some (name κs) m ≡ ghost_name_of a.0))
          (fact 𝓤 (IfSome a.0 (λ s. IfSome m (λ x. Said κs x s.now))));
    }

    abbrev passing : Clauses 𝓤 passes
    passing = λ κs a. record {
      ghost = Unit {0};
      requires = λ g. within κs;
      ensures = λ g m e. sep 𝓤 (fact 𝓤 (IsSome m ↔ There a.0.now))
          (sep 𝓤 (fact 𝓤 (IfSome m (λ x. Said κs x (part a.0.now))))
          (sem 𝓛 (follows_if Whole R a.0.ghost_name (name_if_some (name κs) m) (with_part a.0.now) a.0.now)));
    }

    abbrev pub Lends : Contract 𝓤
    Lends = triple_of 𝓛 lends.signature (closing 𝓛 lends lending)

    abbrev pub Makes : Contract 𝓤
    Makes = triple_of 𝓛 makes.signature (closing 𝓛 makes making)

    open 𝓛 use {H}

    module _ (κs : Lfts 3) (qs : Shares 3) (bounds : AllOutlive 3 passes.signature.outlives κs)
        (r : MutBor Whole.Denot) where
      abbrev y : (walk_of 𝓛 passes stayed passing).Ghost
      y = ((κs, qs, bounds, (r, tt), (mut_vals r, tt)), tt)

      abbrev alive : Fml
      alive = fsep (flft κs.0 qs.0) (fsep (flft κs.1.0 qs.1.0) (fsep (flft κs.1.1.0 qs.1.1.0) ftrue))

      abbrev Follows : maybe.Option GName → Fml
      Follows γ = follows_if Whole R r.ghost_name γ (with_part r.now) r.now

      module _ (𝓜 : Model 𝓤 H) (𝓡 : Running 𝓤 H 𝓜) (n : ℕ) (os : List (ℕ × ℕ)) (ks : List Kind) (g : ℕ)
          {lend make : Callee} (ℓ ℓ' : Lifetime) (τ τ' σ ρ π : Ty)
          (part_typed : (p : (Part κs).Denot) (v : Val) → Is (Part κs) p (v ∷ []) → T (has_ty ρ v) × WT v)
          (made_typed : (m : (Out κs).Denot) (v : Val) → Is (Out κs) m (v ∷ []) → T (has_ty π v) × WT v)
          (lent : Triple 𝓤 ((tables 𝓤 H 𝓜 𝓡 𝓡.env).C lend) Lends)
          (made : Triple 𝓤 ((tables 𝓤 H 𝓜 𝓡 𝓡.env).C make) Makes) where
        pub walk : ent 𝓤 ((walk_of 𝓛 passes stayed passing).pre y)
            (WpFn 𝓤 H (tables 𝓤 H 𝓜 𝓡 𝓡.env).C (tables 𝓤 H 𝓜 𝓡 𝓡.env).Λ (Passes n os ks g lend make ℓ ℓ' τ τ' σ ρ π)
            (vptr r.ref_ptr.0 r.ref_ptr.1 ∷ []) ((walk_of 𝓛 passes stayed passing).post y))
        walk =
            let 𝓣 = tables 𝓤 H 𝓜 𝓡 𝓡.env in
            let First : SProp 𝓤 = fact 𝓤 (κs.1.0 ⊑ X.lives) in let Second : SProp 𝓤 = fact 𝓤 (κs.1.1.0 ⊑ Y.lives) in
            let z : Lends.Ghost = ((κs, qs, bounds, (r, tt), (mut_vals r, tt)), tt) in
            qed 𝓛 (raw (on_entry 𝓛 passes.signature κs qs (r, tt) (mut_vals r, tt)) ∷ raw First ∷ raw Second ∷ ‵ ftrue ∷
            []) ∵
            move ! (1 ∷ []) $ heard ! _ (λ first. move ! (1 ∷ []) $ heard ! _ (λ second. keep ! (0 ∷ []) $
            enter ! _ _ _ _ _ $ alloc_all ! (λ l. pass_all ! refl ((tt, tt), tt) $
            sets ! (addr ! (through ! refl (stop !))) refl (tt, tt) $
            use0 𝓛 (raw Second) (fact_i 𝓤 (κs.1.1.0 ⊑ Y.lives) (emp 𝓤) second) $ nothing ! $ move ! (1 ∷ 0 ∷ []) $ join
            ! $
            use0 𝓛 (raw First) (fact_i 𝓤 (κs.1.0 ⊑ X.lives) (emp 𝓤) first) $ join ! $ move ! (1 ∷ 0 ∷ []) $ join ! $
            use1 𝓛 (raw (Lends.pre z)) (id⊢ 𝓤 _) $
            calls_at ! (framed 𝓤 H 𝓜 𝓣) Lends lent z (and_then ! (get ! refl) (no_more !)) (λ v.
            use1 𝓛 (later (some (λ (p : (Part κs).Denot). (‵ alive ⊛ ‵ ((Part κs).own_val p (v ∷ []))) ⊛ some
            (λ (ws : Lasts lends κs (r, tt)). ‵ (lasts lends κs (r, tt) ws)
            ⊛ raw (fact 𝓤 (IsSome p ↔ There r.now)) ⊛ raw (fact 𝓤 (IfSome p (λ s. s.now ≡ part r.now))) ⊛ ‵
            (Follows (ghost_name_of p)))))) (id⊢ 𝓤 _) $
            await ! tt $ pick ! (λ p. split ! $ split ! $ move ! (2 ∷ []) $ pick !
            (λ ws. split ! $ drop ! $ split ! $ heard ! _ (λ there. split ! $ heard ! _ (λ same.
            -- [what the lender follows; the tokens; the part]
            move ! (2 ∷ []) $ peeks ! (Part κs) _ (shows 𝓛 (Part κs)) p (v ∷ [])
            (λ is. lands_as ! refl refl (part_typed p v is) $
            let z' : Makes.Ghost = ((κs, qs, (bounds.0, tt), (p, tt), (v ∷ [], tt)), tt) in
            nothing ! $ move ! (1 ∷ 0 ∷ []) $ fjoin ! $ move ! (2 ∷ 0 ∷ []) $ join ! $
            use0 𝓛 (raw Second) (fact_i 𝓤 (κs.1.1.0 ⊑ Y.lives) (emp 𝓤) second) $ nothing ! $ move ! (1 ∷ 0 ∷ []) $ join
            ! $
            use0 𝓛 (raw First) (fact_i 𝓤 (κs.1.0 ⊑ X.lives) (emp 𝓤) first) $ join ! $ move ! (1 ∷ 0 ∷ []) $ join ! $
            use1 𝓛 (raw (Makes.pre z')) (id⊢ 𝓤 _) $
            calls_at ! (framed 𝓤 H 𝓜 𝓣) Makes made z' (and_then ! (get ! refl) (no_more !)) (λ u.
            use1 𝓛 (later (some (λ (m : (Out κs).Denot). (‵ alive ⊛ ‵ ((Out κs).own_val m (u ∷ []))) ⊛ some
            (λ (ws : Lasts makes κs (p, tt)). ‵ (lasts makes κs (p, tt) ws)
            ⊛ raw (fact 𝓤 (name_if_some (name κs) m ≡ ghost_name_of p)) ⊛ raw
            (fact 𝓤 (IfSome p (λ s. IfSome m (λ x. Said κs x s.now)))))))) (id⊢ 𝓤 _) $
            await ! tt $ pick ! (λ m. split ! $ split ! $ move ! (2 ∷ []) $ pick !
            (λ ws. split ! $ drop ! $ split ! $ heard ! _ (λ same_name. heard ! _ (λ said.
            -- [the tokens; what was made; what the lender follows]
            move ! (1 ∷ []) $ peeks ! (Out κs) _ (shows 𝓛 (Out κs)) m (u ∷ [])
            (λ is'. lands_as ! refl refl (made_typed m u is') $
            move ! (2 ∷ []) $ rewrite ! 0 (λ (γ : maybe.Option GName). ‵ (Follows γ)) (sym same_name) refl $
            use0 𝓛 (raw (fact 𝓤 (IfSome m (λ x. Said κs x (part r.now)))))
            (fact_i 𝓤 (IfSome m (λ x. Said κs x (part r.now))) (emp 𝓤)
            (still_said (name κs) (Said κs) (part r.now) m p same_name same said)) $ join ! $
            use0 𝓛 (raw (fact 𝓤 (IsSome m ↔ There r.now)))
            (fact_i 𝓤 (IsSome m ↔ There r.now) (emp 𝓤) (still_there (name κs) m p same_name there)) $ join ! $
            nothing ! $ nothing ! $ fjoin ! $ returns ! (look_at ! 0 refl) $ free_all ! refl $
            -- [nothing of the parameter; what is ensured; what was made; the tokens]
            keep ! (3 ∷ 0 ∷ 2 ∷ 1 ∷ []) $ by ! (leaves 𝓛 passes stayed passing y u m (tt, tt) (tt, tt)))))))))))))))))
