-- How reads compose.
use Rattle.std.specs.Prelude.{if◌then◌else◌}
use Rattle.std.proofs.Common.{◌≡◌, ℕ, ◌+◌, ◌<◌, Bool, true, false, List, [], ◌∷◌, ◌++◌, length, Option, Some, None, Result, Ok, Err, refl, sym, ap, ap₂, ◌∙◌, subst, append_assoc, append-nil, length-append, arith, inl, inr, ◌⊎◌}
use Rattle.std.proofs.KnownBytes.{Consumes-nil, Consumes-trans}
use Rattle.std.proofs.Math.Seq.{drop-append_seam}
use Rattle.std.proofs.lemmas.List.{nil_from_length}
use Rattle.std.specs.Borrow.{GName}
use Rattle.std.specs.Io.KnownBytes.{Consumes}
use Rattle.std.specs.Result.{IsErrAnd}
use Rattle.bitstream_order.specs.Reference.{Reference, by_name}
use Rattle.bitstream_count.specs.declared.error.Error.{Error}
use Rattle.bitstream_count.specs.declared.error.Error.TheVariants.{OutOfMemory, Failed, RunTooLong}
use Rattle.bitstream_count.specs.Codec.{Prefix, Decoder, Incomplete, Done, advance, and_then, pure}
use Rattle.bitstream_number.specs.Word.{Order, bits}
use Rattle.bitstream_number.proofs.WordLemmas.{bits-append}
use Rattle.bitstream_order.specs.Moving.Gather.{result_map}
use Rattle.bitstream_order.specs.Fault.{read_refusal_of}
use Rattle.bitstream_stream.proofs.Reading.CodecLemmas.{Same, and_then-ok, and_then-err, and_then-none, and_then-failed}
use Rattle.bitstream_stream.proofs.Shared.{exit_is}
use Rattle.bitstream_stream.specs.Reading.Reads.{ReaderState, BitSource, Demands, QueuesRest, HadFailed, ReadDone, Took, MemoryRefused, ReadOutcome, had_failed, was_done, was_refused, memory_refused, Reads, ReadsGrowing, is_run_too_long, failed_reader}

-- ---- lists

-- Two ways to part one list: the second prefix is longer, or the first prefix begins with it.
pub cut : (x y u v : List Bool) → x ++ y ≡ u ++ v → ((b : Bool) × (r : List Bool) × (u ≡ x ++ b ∷ r))
    ⊎ ((z : List Bool) × (x ≡ u ++ z) × (z ++ y ≡ v))
cut [] y [] v e = inr ([], refl, e)
cut [] y (b ∷ u) v e = inl (b, u, refl)
cut (c ∷ x) y [] v e = inr (c ∷ x, refl, e)
cut (c ∷ x) y (b ∷ u) v e =
    let head : c ≡ b = cc in
    let tail : x ++ y ≡ u ++ v = cc in
    elim (cut x y u v tail) [
      | inl advance ↦ inl (advance.0, advance.1, ap (λ d. d ∷ u) (sym head) ∙ ap (λ l. c ∷ l) advance.2)
      | inr begins ↦ inr (begins.0, ap (λ d. d ∷ x) head ∙ ap (λ l. b ∷ l) begins.1, begins.2)
    ]

-- known bytes that lost some began with them
pub Consumes-known : (a c : Option (List ℕ)) (gone xs : List ℕ) → Consumes a c gone → a ≡ Some xs → (ys : List ℕ)
    × (c ≡ Some ys) × (xs ≡ gone ++ ys)
Consumes-known None c gone xs h e = cc
Consumes-known (Some x) None gone xs h e = absurd h
Consumes-known (Some x) (Some y) gone xs h e = let same : xs ≡ x = cc in (y, refl, same ∙ h)

-- ---- bits that were taken by calls that all returned values

pub Took-nil : (o : Order) (s : ReaderState) → s.failed ≡ false → Took o s [] s
Took-nil o s fine = record {
  fine = fine;
  gone = [];
  loses = Consumes-nil s.bytes;
  parts = append-nil s.queue;
  fetched =
      omega arith;
  taken = omega arith;
  refusals = refl;
  references = refl;
  failed = fine;
}

-- the bits held before and the bits of more bytes are the bits taken, the bits held then and the bits of the bytes left
pub parts_left : (o : Order) (a b u : List Bool) (g h : List ℕ) → a ++ bits o g ≡ u ++ b → a ++ bits o (g ++ h) ≡ u
    ++ (b ++ bits o h)
parts_left o a b u g h p = ap (λ w. a ++ w) (bits-append o g h) ∙ sym (append_assoc a (bits o g) (bits o h))
    ∙ ap (λ w. w ++ bits o h) p ∙ append_assoc u b (bits o h)

-- after bits that were taken, the bits that a call took until it returned a value or lacked memory
Took-behind : (o : Order) (u v rest : List Bool) (s t z : ReaderState) → Took o s u t → (gone : List ℕ)
    → Consumes t.bytes z.bytes gone → t.queue ++ bits o gone ≡ v ++ rest → z.fetched ≡ t.fetched + length gone
    → z.taken ≡ t.taken + length v → z.refusals ≡ t.refusals → z.references ≡ t.references
    → Took o s (u ++ v) (record z { queue = rest; failed = false })
Took-behind o u v rest s t z h gone loses parts fetched taken refusals references = record {
  fine = h.fine;
  gone = h.gone ++ gone;
  loses = Consumes-trans s.bytes t.bytes z.bytes h.gone gone h.loses loses;
  parts = parts_left o s.queue t.queue u h.gone gone h.parts ∙ ap (λ w. u ++ w) parts ∙ sym (append_assoc u v rest);
  fetched = omega (arith, h.fetched, fetched, length-append h.gone gone);
  taken = omega (arith, h.taken, taken, length-append u v);
  refusals = refusals ∙ h.refusals;
  references = references ∙ h.references;
  failed = refl;
}

pub Took-trans : (o : Order) (u v : List Bool) (s t z : ReaderState) → Took o s u t → Took o t v z → Took o s (u ++ v) z
Took-trans o u v s t z h k =
    subst (Took o s (u ++ v)) (ap (λ f. record z { failed = f }) (sym k.failed))
    (Took-behind o u v z.queue s t z h k.gone k.loses k.parts k.fetched k.taken k.refusals k.references)

-- a call that returned a value took its bits
pub took : {A : Type 0} (o : Order) (e : Decoder A) (a : A) (s t : ReaderState) (h : ReadDone o e s (Ok a) t)
    → Took o s h.word t
took o e a s t h = record {
  fine = h.fine;
  gone = h.gone;
  loses = h.loses;
  parts = h.parts ∙ ap (λ l. h.word ++ l) (sym h.queue);
  fetched = h.fetched;
  taken = h.taken;
  refusals = h.refusals;
  references = h.references;
  failed = h.failed;
}

-- a prefix that is the bits taken: after the result `RunTooLong`, the reader has failed
Took-prefix : {A : Type 0} (o : Order) (e : Decoder A) (r : Result A Error) (w : List Bool) (s t : ReaderState)
    → Took o s w t
    → ((more : List Bool) → e.reads s.taken (w ++ more) ≡ Done (length w) r)
    → ((prefix : List Bool) (b : Bool) (back : List Bool) → w ≡ prefix ++ b ∷ back → e.reads s.taken prefix ≡ Incomplete)
    → ReadDone o e s r (record t { queue = if is_run_too_long r then [] else t.queue; failed = is_run_too_long r })
Took-prefix o e r w s t h decides needs = record {
  fine = h.fine;
  word = w;
  decides = decides;
  needs = needs;
  gone = h.gone;
  loses = h.loses;
  rest = t.queue;
  parts = h.parts;
  queue = refl;
  fetched = h.fetched;
  taken = h.taken;
  refusals = h.refusals;
  references = h.references;
  failed = refl;
}

-- an allocation of the call failed after bits that were taken and are too few for it
Took-memory_refused : {A : Type 0} (o : Order) (e : Decoder A) (w held : List Bool) (s t : ReaderState) → Took o s w t
    → e.reads s.taken w ≡ Incomplete → MemoryRefused o e s (Err OutOfMemory) (record t { queue = held; failed = true })
Took-memory_refused o e w held s t h few = record {
  fine = h.fine;
  answer = refl;
  word = w;
  few = few;
  gone = h.gone;
  loses = h.loses;
  rest = t.queue;
  parts = h.parts;
  fetched = h.fetched;
  taken = h.taken;
  refusals = h.refusals;
  references = h.references;
  failed = refl;
}

-- The bits held before, where the rest of them was too few for the call after the bits taken: they were too few for
-- the bits taken, or they are the bits taken and the bits held now.
pub Took-held : (o : Order) (w : List Bool) (s t : ReaderState) → Demands s → QueuesRest s → Demands t → Took o s w t
    → ((b : Bool) × (r : List Bool) × (w ≡ s.queue ++ b ∷ r)) ⊎ (s.queue ≡ w ++ t.queue)
Took-held o w s t demands holds later h = elim (cut s.queue (bits o h.gone) w t.queue h.parts) [
  | inl short ↦ inl short
  | inr all ↦
      let size : length s.queue ≡ length w + length all.0 = ap (λ l. length l) all.1 ∙ length-append w all.0 in
      let none : length h.gone ≡ 0 = omega (arith, size, holds h.fine, demands, h.taken, later, h.fetched) in
      let same : all.0 ++ bits o h.gone ≡ all.0 = ap (λ g. all.0 ++ bits o g) (nil_from_length h.gone none)
      ∙ append-nil all.0 in
      inr (all.1 ∙ ap (λ l. w ++ l) (sym same ∙ all.2))
]

-- all bits that are left, after the bits taken
pub Took-left : (o : Order) (w : List Bool) (s t : ReaderState) → Took o s w t → (xs : List ℕ) → s.bytes ≡ Some xs
    → (ys : List ℕ) × (t.bytes ≡ Some ys) × (s.queue ++ bits o xs ≡ w ++ (t.queue ++ bits o ys))
Took-left o w s t h xs known =
    let lost = Consumes-known s.bytes t.bytes h.gone xs h.loses known in
    (lost.0, lost.1, ap (λ l. s.queue ++ bits o l) lost.2 ∙ parts_left o s.queue t.queue w h.gone lost.0 h.parts)

-- ---- a call after bits that were taken: of a sequence, or of a loop's next iteration

-- no beginning of these bits has a prefix, and after them a call is too short where the next one is
pub record Behind {A B : Type 0} (e : Decoder A) (p : ℕ) (w : List Bool) (d : Decoder B) (q : ℕ) : Type 0 where
  pub needs : (prefix : List Bool) (b : Bool) (back : List Bool) → w ≡ prefix ++ b ∷ back → e.reads p prefix ≡ Incomplete
  pub short : (more : List Bool) → d.reads q more ≡ Incomplete → e.reads p (w ++ more) ≡ Incomplete

pub Behind-needs : {A B : Type 0} {e : Decoder A} {p : ℕ} {w : List Bool} {d : Decoder B} {q : ℕ} (v : List Bool)
    → Behind e p w d q
    → ((prefix : List Bool) (b : Bool) (back : List Bool) → v ≡ prefix ++ b ∷ back → d.reads q prefix ≡ Incomplete)
    → (prefix : List Bool) (b : Bool) (back : List Bool) → w ++ v ≡ prefix ++ b ∷ back → e.reads p prefix ≡ Incomplete
Behind-needs {e = e} {p = p} {w = w} v h needs prefix b back parts = elim (cut prefix (b ∷ back) w v (sym parts)) [
  | inl in_word ↦ h.needs prefix in_word.0 in_word.1 in_word.2
  | inr behind ↦ ap (λ l. e.reads p l) behind.1 ∙ h.short behind.0 (needs behind.0 b back (sym behind.2))
]

pub none_needed : (prefix : List Bool) (b : Bool) (back : List Bool) → [] ≡ prefix ++ b ∷ back → ⊥
none_needed [] b back e = cc
none_needed (c ∷ prefix) b back e = cc

-- after no bits
Behind-none : {A B : Type 0} (e : Decoder A) (d : Decoder B) (p : ℕ)
    → ((more : List Bool) → d.reads p more ≡ Incomplete → e.reads p more ≡ Incomplete) → Behind e p [] d p
Behind-none e d p short = record { needs = λ prefix b back is. absurd (none_needed prefix b back is); short = short }

-- ---- a call after others, as in a sequence or a loop

-- so far a loop took some bits, or it did nothing yet
pub Begun : {R : Type 0} → BitSource R → R → List Bool → R → Type 0
Begun K s w t = ((w ≡ []) × (t ≡ s)) ⊎ Took K.order (K.state s) w (K.state t)

pub Begun-nil : {R : Type 0} (K : BitSource R) (s : R) → Begun K s [] s
unfolding Begun
Begun-nil K s = inl (refl, refl)

pub Begun-took : {R : Type 0} (K : BitSource R) (s : R) (w : List Bool) (t : R) → Begun K s w t → (K.state t).failed
    ≡ false → Took K.order (K.state s) w (K.state t)
unfolding Begun
Begun-took K s w t (inl h) fine =
    subst (λ v. Took K.order (K.state s) v (K.state t)) (sym h.0)
    (subst (λ x. Took K.order (K.state x) [] (K.state t)) h.1 (Took-nil K.order (K.state t) fine))
Begun-took K s w t (inr h) fine = h

-- bits were taken
pub Begun-word : {R : Type 0} (K : BitSource R) (s : R) (w : List Bool) (t : R) → Begun K s w t → 0 < length w
    → Took K.order (K.state s) w (K.state t)
unfolding Begun
Begun-word K s w t (inl h) some = let none : length w ≡ 0 = ap (λ l. length l) h.0 in absurd (omega arith)
Begun-word K s w t (inr h) some = h

begun_failed : {R : Type 0} (K : BitSource R) (s : R) (w : List Bool) (t : R) → Begun K s w t → (K.state t).failed
    ≡ true → t ≡ s
unfolding Begun
begun_failed K s w t (inl h) failed = h.1
begun_failed K s w t (inr h) failed = let p = h.failed in cc

-- The call left after bits taken, with the result of the last call or with a result that its value decides.
pub Reads-behind : {R A B : Type 0} {K : BitSource R} {grows : Bool} (e : Decoder A) (d : Decoder B)
    (w : List Bool) (r : Result A Error) (x : Result B Error) (s t z : R)
    → Begun K s w t → Behind e (K.state s).taken w d (K.state t).taken
    → ((K.state t).failed ≡ true → x ≡ d.on_failed → r ≡ e.on_failed)
    → ((y : Error) → x ≡ Err y → r ≡ Err y) → is_run_too_long r ≡ is_run_too_long x
    → ((v : List Bool) → ((more : List Bool) → d.reads (K.state t).taken (v ++ more) ≡ Done (length v) x)
    → (more : List Bool) → e.reads (K.state s).taken ((w ++ v) ++ more) ≡ Done (length (w ++ v)) r)
    → ReadOutcome K grows d t x z → ReadOutcome K grows e s r z
Reads-behind {K = K} e d w r x s t z b behind fails passes long decides (had_failed h) =
    let here = begun_failed K s w t b h.failed in
    had_failed (record {
      failed = ap (λ y. (K.state y).failed) (sym here) ∙ h.failed;
      answer = fails h.failed h.answer;
      same = h.same ∙ ap K.state here;
    })
Reads-behind {K = K} e d w r x s t z b behind fails passes long decides (was_done h) =
    let all = Took-behind K.order w h.word h.rest (K.state s) (K.state t) (K.state z) (Begun-took K s w t b h.fine)
    h.gone h.loses h.parts h.fetched h.taken h.refusals h.references in
    was_done (subst (ReadDone K.order e (K.state s) r)
    (ap₂ (λ l f. record (K.state z) { queue = l; failed = f }) (ap (λ f. if f then [] else h.rest) long
    ∙ sym h.queue) (long ∙ sym h.failed))
    (Took-prefix K.order e r (w ++ h.word) (K.state s) (record (K.state z) { queue = h.rest; failed = false }) all
    (decides h.word h.decides) (Behind-needs h.word behind h.needs)))
Reads-behind {K = K} e d w r x s t z b behind fails passes long decides (was_refused h) =
    let was = Begun-took K s w t b h.fine in
    was_refused (record {
      fine = was.fine;
      refusal = h.refusal;
      allowed = h.allowed;
      answer = passes (read_refusal_of h.refusal.kind) h.answer;
      short = elim (Took-held K.order w (K.state s) (K.state t) (K.demands s) (K.holds s) (K.demands t) was) [
        | inl first ↦ behind.needs (K.state s).queue first.0 first.1 first.2
        | inr all ↦ ap (λ l. e.reads (K.state s).taken l) all ∙ behind.short (K.state t).queue h.short
      ];
      gone = was.gone ++ h.gone;
      loses = Consumes-trans (K.state s).bytes (K.state t).bytes h.refusal.before was.gone h.gone was.loses h.loses;
      after = h.after;
      fetched = let i = was.fetched in let j = h.fetched in let l = length-append was.gone h.gone in omega arith;
      least = omega (arith, was.taken, h.least);
      few = ap (λ l. e.reads (K.state s).taken l) (parts_left K.order (K.state s).queue (K.state t).queue w was.gone
          h.gone was.parts) ∙ behind.short ((K.state t).queue ++ bits K.order h.gone) h.few;
      ended = λ end xs known.
          let left = Took-left K.order w (K.state s) (K.state t) was xs known in
          ap (λ l. e.reads (K.state s).taken l) left.2
          ∙ behind.short ((K.state t).queue ++ bits K.order left.0) (h.ended end left.0 left.1);
      refusals = h.refusals ∙ ap (λ l. h.refusal ∷ l) was.refusals;
      references = h.references ∙ was.references;
      failed = h.failed;
    })
Reads-behind {K = K} e d w r x s t z b behind fails passes long decides (memory_refused g h) =
    let all = Took-behind K.order w h.word h.rest (K.state s) (K.state t) (K.state z) (Begun-took K s w t b h.fine)
    h.gone h.loses h.parts h.fetched h.taken h.refusals h.references in
    memory_refused g (rw (passes OutOfMemory h.answer) (subst (MemoryRefused K.order e (K.state s) (Err OutOfMemory))
    (ap (λ f. record (K.state z) { failed = f }) (sym h.failed))
    (Took-memory_refused K.order e (w ++ h.word) (K.state z).queue (K.state s) (record (K.state z) {
      queue = h.rest;
      failed = false;
    }) all (behind.short h.word h.few))))

-- a call on a reader that has failed
still_failed : {R A : Type 0} {K : BitSource R} {grows : Bool} {e : Decoder A} {r : Result A Error} {s t : R}
    → (K.state s).failed ≡ true → ReadOutcome K grows e s r t → HadFailed e (K.state s) r (K.state t)
still_failed failed (had_failed h) = h
still_failed failed (was_done h) = let p = h.fine in cc
still_failed failed (was_refused h) = let p = h.fine in cc
still_failed failed (memory_refused g h) = let p = h.fine in cc

-- a call that returned a value
pub ok_prefix : {R A : Type 0} {K : BitSource R} {grows : Bool} {e : Decoder A} {a : A} {s t : R} → e.on_failed
    ≡ Err Failed → ReadOutcome K grows e s (Ok a) t → ReadDone K.order e (K.state s) (Ok a) (K.state t)
ok_prefix failed (had_failed h) = let p = h.answer in cc
ok_prefix failed (was_done h) = h
ok_prefix failed (was_refused h) = let p = h.answer in cc
ok_prefix failed (memory_refused g h) = let p = h.answer in cc

-- the call of the next iteration returned a value
pub Begun-more : {R A : Type 0} {K : BitSource R} {grows : Bool} (d : Decoder A) (a : A) (s : R)
    (w : List Bool) (t z : R) → Begun K s w t → d.on_failed ≡ Err Failed → ReadOutcome K grows d t (Ok a) z
    → (v : List Bool) × ((more : List Bool) → d.reads (K.state t).taken (v ++ more) ≡ Done (length v) (Ok a))
    × Begun K s (w ++ v) z
unfolding Begun
Begun-more {K = K} d a s w t z b failed read =
    let h = ok_prefix failed read in (
      h.word,
      h.decides,
      inr (Took-trans K.order w h.word (K.state s) (K.state t) (K.state z)
          (Begun-took K s w t b h.fine) (took K.order d a (K.state t) (K.state z) h)),
    )

-- a run that was too long: the reader was then made to fail
pub Took-too_long : {A : Type 0} (o : Order) (e : Decoder A) (w : List Bool) (s t z : ReaderState) → Took o s w t → z
    ≡ failed_reader t
    → ((more : List Bool) → e.reads s.taken (w ++ more) ≡ Done (length w) (Err RunTooLong))
    → ((prefix : List Bool) (b : Bool) (back : List Bool) → w ≡ prefix ++ b ∷ back → e.reads s.taken prefix ≡ Incomplete)
    → ReadDone o e s (Err RunTooLong) z
Took-too_long o e w s t z h broken decides needs = rw broken (Took-prefix o e (Err RunTooLong) w s t h decides needs)

-- ---- chains

-- two calls, one after the other
and_then_prefix : {A B : Type 0} (e : Decoder A) (f : A → Decoder B) (p q : ℕ) (u v : List Bool) (a : A) (x : Prefix B)
    → e.reads p (u ++ v) ≡ Done (length u) (Ok a) → q ≡ p + length u → (f a).reads q v ≡ x
    → (and_then e f).reads p (u ++ v) ≡ advance (length u) x
and_then_prefix e f p q u v a x first place second =
    and_then-ok e f p (u ++ v) (length u) a first ∙ ap₂ (λ i l. advance (length u) ((f a).reads i l)) (sym place)
    (drop-append_seam u v) ∙ ap (advance (length u)) second

-- two prefixes
pub and_then_decides : {A B : Type 0} (e : Decoder A) (f : A → Decoder B) (p q : ℕ) (u v : List Bool) (a : A)
    (r : Result B Error)
    → ((more : List Bool) → e.reads p (u ++ more) ≡ Done (length u) (Ok a))
    → q ≡ p + length u
    → ((more : List Bool) → (f a).reads q (v ++ more) ≡ Done (length v) r)
    → (more : List Bool) → (and_then e f).reads p ((u ++ v) ++ more) ≡ Done (length (u ++ v)) r
and_then_decides e f p q u v a r first place second more =
    rw (
      append_assoc u v more,
      and_then_prefix e f p q u (v ++ more) a (Done (length v) r) (first (v ++ more)) place
          (second more),
      length-append u v,
    ) refl

pub Reads-and_then-ok : {R A B : Type 0} {K : BitSource R} {grows : Bool} (e : Decoder A) (f : A → Decoder B)
    {a : A} {r : Result B Error} {s t z : R}
    → ReadOutcome K grows e s (Ok a) t → ReadOutcome K grows (f a) t r z → ReadOutcome K grows (and_then e f) s r z
unfolding Begun
Reads-and_then-ok e f (had_failed h) k =
    let next = still_failed (ap (λ (x : ReaderState). x.failed) h.same ∙ h.failed) k in
    had_failed (record {
      failed = h.failed;
      answer = rw (and_then-failed e f, ← h.answer) next.answer;
      same = next.same
          ∙ h.same;
    })
Reads-and_then-ok {K = K} e f {a = a} {r = r} {s = s} {t = t} {z = z} (was_done h) k =
    let behind : Behind (and_then e f) (K.state s).taken h.word (f a) (K.state t).taken = record {
      needs = λ prefix b back is. and_then-none e f (K.state s).taken prefix (h.needs prefix b back is);
      short = λ more short. and_then_prefix e f (K.state s).taken (K.state t).taken h.word more a Incomplete (h.decides more)
          h.taken short;
    } in
    Reads-behind (and_then e f) (f a) h.word r r s t z (inr (took K.order e a (K.state s) (K.state t) h)) behind
    (λ broken q. let p = h.failed in cc) (λ y q. q) refl (λ v d. and_then_decides e f (K.state s).taken (K.state t).taken
    h.word v a r h.decides h.taken d) k
Reads-and_then-ok e f (was_refused h) k = let p = h.answer in cc
Reads-and_then-ok e f (memory_refused g h) k = let p = h.answer in cc

pub Reads-and_then-err : {R A B : Type 0} {K : BitSource R} {grows : Bool} (e : Decoder A) (f : A → Decoder B)
    {x : Error} {s t : R}
    → ReadOutcome K grows e s (Err x) t → ReadOutcome K grows (and_then e f) s (Err x) t
Reads-and_then-err {K = K} e f {x = x} {s = s} {t = t} h =
    Reads-behind (and_then e f) e [] (Err x) (Err x) s s t (Begun-nil K s)
    (Behind-none (and_then e f) e (K.state s).taken (λ more short. and_then-none e f (K.state s).taken more short))
    (λ broken q. rw (and_then-failed e f, ← q) refl) (λ y q. let same : x ≡ y = cc in
    ap Err same) refl (λ v d more. and_then-err e f (K.state s).taken (v ++ more) (length v) x (d more)) h

pub Reads-same : {R A : Type 0} {K : BitSource R} {grows : Bool} {d e : Decoder A} {r : Result A Error} {s t : R}
    → Same d e → ReadOutcome K grows d s r t → ReadOutcome K grows e s r t
Reads-same {K = K} {d = d} {e = e} {r = r} {s = s} {t = t} same h =
    Reads-behind e d [] r r s s t (Begun-nil K s) (Behind-none e d (K.state s).taken
    (λ more short. sym (same.reads (K.state s).taken more) ∙ short))
    (λ broken q. q ∙ same.on_failed) (λ y q. q) refl (λ v d more. sym (same.reads (K.state s).taken (v ++ more))
    ∙ d more) h

-- ---- a call that takes nothing

pub Reads-nothing : {R A : Type 0} {K : BitSource R} {grows : Bool} (e : Decoder A) (r : Result A Error) (s : R)
    → (K.state s).failed ≡ false → is_run_too_long r ≡ false
    → ((more : List Bool) → e.reads (K.state s).taken more ≡ Done 0 r) → ReadOutcome K grows e s r s
Reads-nothing {K = K} e r s fine short decides =
    let x = K.state s in
    was_done (subst (ReadDone K.order e x r) (ap₂ (λ b f. record x { queue = if b then [] else x.queue; failed = f })
    short (short ∙ sym fine))
    (Took-prefix K.order e r [] x x (Took-nil K.order x fine) decides
    (λ prefix b back is. absurd (none_needed prefix b back is))))

pure-by : {R A : Type 0} {K : BitSource R} {grows : Bool} (a : A) (s : R) (v : Bool) → (K.state s).failed ≡ v
    → ReadOutcome K grows (pure a) s (Ok a) s
pure-by a s true h = had_failed (record { failed = h; answer = refl; same = refl })
pure-by a s false h = Reads-nothing (pure a) (Ok a) s h refl (λ more. refl)

pub Reads-pure : {R A : Type 0} {K : BitSource R} {grows : Bool} (a : A) (s : R)
    → ReadOutcome K grows (pure a) s (Ok a) s
Reads-pure {K = K} a s = pure-by a s (K.state s).failed refl

-- what the exit of a `?` returns
pub exit : {R A B : Type 0} {K : BitSource R} {grows : Bool} {e : Decoder A} (f : A → Decoder B) {x : Error}
    {s t : R} (r : Result B Error) → IsErrAnd r (λ y. y ≡ x) → ReadOutcome K grows e s (Err x) t
    → ReadOutcome K grows (and_then e f) s r t
exit {K = K} {grows = grows} {e = e} f {s = s} {t = t} r h k =
    subst (λ z. ReadOutcome K grows (and_then e f) s z t) (sym (exit_is r h)) (Reads-and_then-err e f k)

-- the value that the exit of a `?` returns, where a clause sees the result by a view
pub map_err : {B C : Type 0} {x : Error} (view : B → C) (r : Result B Error) → IsErrAnd r (λ y. y ≡ x) → result_map view r
    ≡ Err x
map_err view r h = ap (result_map view) (exit_is r h)

-- a read that asks for no memory is one that may
pub Reads-growing : {R A : Type 0} {K : BitSource R} {e : Decoder A} {r : Result A Error} {s t : R} → Reads K e s r t
    → ReadsGrowing K e s r t
Reads-growing (had_failed h) = had_failed h
Reads-growing (was_done h) = was_done h
Reads-growing (was_refused h) = was_refused h
Reads-growing (memory_refused g h) = memory_refused refl h

-- ---- a new reader

-- ---- memory of the call's own

-- an allocation failed before a call that needs bits, and the reader was made to fail
pub Reads-memory_refused : {R A : Type 0} {K : BitSource R} (e : Decoder A) (s z : R) → (K.state s).failed ≡ false
    → e.reads (K.state s).taken [] ≡ Incomplete → K.state z ≡ failed_reader (K.state s)
    → ReadsGrowing K e s (Err OutOfMemory) z
Reads-memory_refused {K = K} e s z fine some broken = memory_refused refl
    (rw broken (Took-memory_refused K.order e [] [] (K.state s) (K.state s) (Took-nil K.order (K.state s) fine) some))

-- the first of the references through which a stream is reached
abbrev name_at_front : GName → List Reference → GName
name_at_front name [] = name
name_at_front name (reference ∷ others) = reference.name

pub first_name : {m n : GName} {k l : List Reference} → by_name m ∷ l ≡ by_name n ∷ k → m ≡ n
first_name {m = m} same = ap (name_at_front m) same
