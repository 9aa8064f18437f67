-- What seeks come to.
use Rattle.std.proofs.Common.{◌≡◌, ℕ, zero, suc, pos, ℤ, ◌+◌, ◌*◌, ◌/◌, ◌%◌, ◌^◌, ◌<◌, ◌≤◌, nat_le, Bool, true, false, if◌then◌else◌, List, [], ◌∷◌, ◌++◌, length, take, drop, Option, Some, None, Result, Ok, Err, refl, sym, ap, ap₂, ◌∙◌, subst, arith, length-append}
use Rattle.std.proofs.Math.Seq.{drop-append_seam, drop-append-add, drop-nil}
use Rattle.std.proofs.lemmas.Bool.{lt-ltb, leb-false}
use Rattle.std.proofs.lemmas.List.{length-drop, drop_all}
use Rattle.std.specs.Prelude.{option_map, IfSome}
use Rattle.std.specs.Result.{IsErrAnd}
use Rattle.std.specs.declared.io.ErrorKind.{ErrorKind}
use Rattle.std.specs.declared.io.traits.SeekFrom.{SeekFrom}
use Rattle.std.specs.declared.io.traits.SeekFrom.TheVariants.{Start, End, Current}
use Rattle.std.specs.Io.KnownBytes.{Keeps}
use Rattle.std.specs.Io.Seek.{IsSeekTarget, SeekMoves, StaysAt}
use Rattle.bitstream_count.specs.declared.error.Error.{Error}
use Rattle.bitstream_count.specs.declared.error.Error.TheVariants.{Place}
use Rattle.bitstream_count.specs.Codec.{Decoder, Incomplete, Done}
use Rattle.bitstream_number.specs.Word.{Order, bits, word, number}
use Rattle.bitstream_number.proofs.WordLemmas.{length-word, length-bits}
use Rattle.bitstream_order.specs.Port.{PortState, Placed}
use Rattle.bitstream_order.specs.Refusal.{Refusal, MayRefuseSeek}
use Rattle.bitstream_order.specs.Streaming.Slice.{slice_bytes, slice_place, slice_remaining, slice_refuses_seek, slice_stream}
use Rattle.bitstream_order.proofs.Streaming.SliceLemmas.{IsNear, slice_in_range, slice_rest}
use Rattle.bitstream_stream.specs.Reading.Place.{bit_meant, place_of}
use Rattle.bitstream_stream.specs.Reading.Reader.{reader_state}
use Rattle.bitstream_stream.specs.Reading.ReadTable.{unsigned_decoder}
use Rattle.bitstream_stream.specs.Reading.Reads.{ReaderState, Reads, ReadOutcome, ReadDone, ReadRefused, failed_reader}
use Rattle.bitstream_order.specs.declared.streams.slice.Slice.{Slice}
use Rattle.bitstream_stream.specs.Reading.Seek.{IsByteSeek, MaySeek, SeekerOf, Tells, CountsFrom, Means, Lands, RequestRefused, SkipRefused, GoesTo, OnlyAsked, Begins, SeeksBits, AsksPlace, IsFromHere}
use Rattle.bitstream_stream.proofs.Shared.{exit_is}
use Rattle.bitstream_stream.proofs.Reading.ReadsLemmas.{Consumes-known, parts_left, ok_prefix}
use Rattle.bitstream_stream.proofs.Reading.TableLemmas.{unsigned-takes}

-- ---- the bits after a place

pub bits_behind : (o : Order) (k j : ℕ) (xs : List ℕ) → drop j (bits o (drop k xs)) ≡ drop (8 * k + j) (bits o xs)
bits_behind o zero j xs = ap (λ n. drop n (bits o xs)) (omega arith)
bits_behind o (suc k) j [] = drop-nil j ∙ sym (drop-nil (8 * suc k + j))
bits_behind o (suc k) j (x ∷ xs) =
    let size : length (word o 8 x) + (8 * k + j) ≡ 8 * suc k + j = omega (arith, length-word o 8 x) in
    bits_behind o k j xs ∙ sym (drop-append-add (word o 8 x) (bits o xs) (8 * k + j))
    ∙ ap (λ n. drop n (word o 8 x ++ bits o xs)) size

pub bits_at : (o : Order) (place : ℕ) (xs : List ℕ) → drop (place % 8) (bits o (drop (place / 8) xs))
    ≡ drop place (bits o xs)
bits_at o place xs =
    let whole : 8 * (place / 8) + place % 8 ≡ place = omega arith in
    bits_behind o (place / 8) (place % 8) xs ∙ ap (λ n. drop n (bits o xs)) whole

-- ---- what a stream tells

kept : (a b : Option (List ℕ)) (xs : List ℕ) → Keeps a b → a ≡ Some xs → b ≡ Some xs
kept (Some ys) (Some zs) xs k known = ap Some k ∙ known
kept (Some ys) None xs k known = absurd k
kept None b xs k known = cc

moved : {R : Type 0} (K : SeekerOf R) (to : SeekFrom) (old : R) (at : ℕ) (new : R) (xs : List ℕ)
    → Begins K to old at new → (told : Tells K old xs) → IsSeekTarget told.at (K.bytes old) to at × (K.position new
    ≡ Some at)
moved K to old at new xs begins told = subst (λ p. SeekMoves {E = Error} p (K.position new) (K.bytes old) to (Ok at))
    told.position begins.moves

pub told_anew : {R : Type 0} {K : SeekerOf R} {to : SeekFrom} {old : R} {at : ℕ} {new : R} → Begins K to old at new
    → (xs : List ℕ) → Tells K old xs → Tells K new xs
told_anew {K = K} {to = to} {old = old} {at = at} {new = new} begins xs told = record {
  rest = told.rest;
  at = at;
  position = (moved K to old at new xs begins told).1;
  bytes = kept (K.bytes old) (K.bytes new) xs begins.bytes told.bytes;
}

told_still : {R : Type 0} {K : SeekerOf R} {old new : R} → OnlyAsked K old new → (xs : List ℕ) → Tells K old xs
    → Tells K new xs
told_still {K = K} {old = old} {new = new} asked xs told = record {
  rest = told.rest;
  at = told.at;
  position = subst (λ p. StaysAt p (K.position new)) told.position asked.position;
  bytes = kept (K.bytes old) (K.bytes new) xs asked.bytes told.bytes;
}

-- the bytes left at the byte of a place
rest_at : {R : Type 0} (K : SeekerOf R) (place at : ℕ) (old mid : R) (xs : List ℕ)
    → Begins K (Start (place / 8)) old at mid → Tells K old xs → (K.source.state mid).bytes ≡ Some (drop (place / 8) xs)
rest_at K place at old mid xs begins told =
    let move = moved K (Start (place / 8)) old at mid xs begins told in
    told.rest mid at xs move.1 (kept (K.bytes old) (K.bytes mid) xs begins.bytes told.bytes)
    ∙ ap (λ n. Some (drop n xs)) move.0

-- ---- skipping the first bits of a byte

prefix_size : (b : Bool) (n m : ℕ) (r x : Result ℕ Error) → (if b then Done n r else Incomplete) ≡ Done m x → m ≡ n
prefix_size true n m r x h = cc
prefix_size false n m r x h = cc

prefix_few : (b : Bool) (n m : ℕ) (r : Result ℕ Error) → nat_le n m ≡ b → (if b then Done n r else Incomplete) ≡ Incomplete
    → m < n
prefix_few true n m r is h = cc
prefix_few false n m r is h = leb-false n m is

skipped_size : (o : Order) (n p m : ℕ) (w : List Bool) (x : Result ℕ Error) → n ≤ 8 → (unsigned_decoder o 8 n).reads p w
    ≡ Done m x → m ≡ n
skipped_size o n p m w x le h = prefix_size (nat_le n (length w)) n m (Ok (number o (take n w))) x
    (subst (λ (e : Decoder ℕ). e.reads p w ≡ Done m x) (unsigned-takes o 8 n le) h)

skipped_few : (o : Order) (n p : ℕ) (w : List Bool) → n ≤ 8 → (unsigned_decoder o 8 n).reads p w ≡ Incomplete → length w < n
skipped_few o n p w le h = prefix_few (nat_le n (length w)) n (length w) (Ok (number o (take n w))) refl
    (subst (λ (e : Decoder ℕ). e.reads p w ≡ Incomplete) (unsigned-takes o 8 n le) h)

pub lands : {R : Type 0} (K : SeekerOf R) (place at v : ℕ) (old mid new : R) → Begins K (Start (place / 8)) old at mid
    → ReadDone K.source.order (unsigned_decoder K.source.order 8 (place % 8)) (K.source.state mid) (Ok v)
    (K.source.state new) → Lands K place old new
lands K place at v old mid new begins h =
    let o = K.source.order in
    let size : length h.word ≡ place % 8 = skipped_size o (place % 8) _ _ (h.word ++ []) _ (omega arith) (h.decides [])
    in
    let taken : (K.source.state new).taken ≡ place % 8 = omega (arith, h.taken, begins.taken, size) in
    let fetched = K.source.demands new ∙ ap (λ n. (n + 7) / 8) taken in
    record {
      failed = h.failed;
      taken = taken;
      fetched = fetched;
      queued = let whole = K.source.holds new h.failed in omega (arith, whole, taken, fetched);
      refusals = h.refusals ∙ begins.refusals;
      references = h.references ∙ begins.references;
      left = λ xs told.
          let lost = Consumes-known (K.source.state mid).bytes (K.source.state new).bytes h.gone (drop (place / 8) xs)
          h.loses (rest_at K place at old mid xs begins told) in
          let all : bits o (drop (place / 8) xs) ≡ h.word ++ (h.rest ++ bits o lost.0) =
          ap (λ l. bits o l) lost.2 ∙ sym (ap (λ q. q ++ bits o (h.gone ++ lost.0)) begins.queue)
          ∙ parts_left o (K.source.state mid).queue h.rest h.word h.gone lost.0 h.parts in
          let behind : drop (place % 8) (bits o (drop (place / 8) xs)) ≡ h.rest ++ bits o lost.0 =
          ap₂ (λ n l. drop n l) (sym size) all ∙ drop-append_seam h.word (h.rest ++ bits o lost.0) in
          ap₂ (λ q b. option_map (λ ys. q ++ bits o ys) b) h.queue lost.1 ∙ ap Some (sym behind ∙ bits_at o place xs);
    }

pub skip_refused : {R : Type 0} (K : SeekerOf R) (place at : ℕ) (old mid new : R) (x : Error) (r : Result ℕ Error) → r
    ≡ Err x → Begins K (Start (place / 8)) old at mid
    → ReadRefused K.source.order K.source.may (unsigned_decoder K.source.order 8 (place % 8)) (K.source.state mid) (Err x)
    (K.source.state new) → SkipRefused K place old r new
skip_refused K place at old mid new x r same begins h = record {
  refused = record {
    refusal = h.refusal;
    allowed = h.allowed;
    answer = same ∙ h.answer;
    after = h.after;
    fetched =
        let few = skipped_few K.source.order (place % 8) _ _ (omega arith) h.few in
        let size = length-append (K.source.state mid).queue (bits K.source.order h.gone) in
        omega (arith, few, size, length-bits K.source.order h.gone, h.fetched, begins.fetched);
    refusals = h.refusals ∙ ap (λ l. h.refusal ∷ l) begins.refusals;
    references = h.references ∙ begins.references;
    queue = K.source.empties new h.failed;
    failed = h.failed;
  };
  some = omega (arith, skipped_few K.source.order (place % 8) _ _ (omega arith) h.short);
  ended = λ end xs told.
      let rest = drop (place / 8) xs in
      let few = skipped_few K.source.order (place % 8) _ _ (omega arith)
      (h.ended end rest (rest_at K place at old mid xs begins told)) in
      omega (
        arith,
        few,
        length-append (K.source.state mid).queue (bits K.source.order rest),
        length-bits K.source.order rest,
        length-drop (place / 8) xs,
      );
}

skips_some : (b : Bool) (n m : ℕ) (v : ℕ) (x : Error) → (if b then Done n (Ok v) else Incomplete) ≡ Done m (Err x) → ⊥
skips_some true n m v x h = cc
skips_some false n m v x h = cc

skip_answers : (o : Order) (n p m : ℕ) (w : List Bool) (x : Error) → n ≤ 8 → (unsigned_decoder o 8 n).reads p w
    ≡ Done m (Err x) → ⊥
skip_answers o n p m w x le h = skips_some (nat_le n (length w)) n m (number o (take n w)) x
    (subst (λ (e : Decoder ℕ). e.reads p w ≡ Done m (Err x)) (unsigned-takes o 8 n le) h)

pub goes : {R : Type 0} {K : SeekerOf R} {place counted at v : ℕ} {old mid new : R} → Begins K (Start (place / 8)) old at mid
    → Reads K.source (unsigned_decoder K.source.order 8 (place % 8)) mid (Ok v) new
    → GoesTo K place counted old (Ok place) new
goes {K = K} {place = place} begins h =
    GoesTo.was_done refl (lands K place _ _ _ _ _ begins
    (ok_prefix (ap (λ (e : Decoder ℕ). e.on_failed) (unsigned-takes K.source.order 8 (place % 8) (omega arith)))
    h))

pub goes_too_far : {R : Type 0} {K : SeekerOf R} {place counted at : ℕ} {x : Error} {old mid new : R} (r : Result ℕ Error)
    → IsErrAnd r (λ y. y ≡ x) → Begins K (Start (place / 8)) old at mid
    → Reads K.source (unsigned_decoder K.source.order 8 (place % 8)) mid (Err x) new
    → GoesTo K place counted old r new
goes_too_far r same begins (ReadOutcome.had_failed h) = let p = h.failed in let q = begins.failed in cc
goes_too_far {K = K} {place = place} r same begins (ReadOutcome.was_done h) =
    absurd (skip_answers K.source.order (place % 8) _ _ (h.word ++ []) _ (omega arith) (h.decides []))
goes_too_far {K = K} {place = place} r same begins (ReadOutcome.was_refused h) =
    GoesTo.was_too_far (skip_refused K place _ _ _ _ _ r (exit_is r same) begins h)
goes_too_far r same begins (ReadOutcome.memory_refused g h) = cc

-- ---- asking for the place

pub asked : (o : Order) (p q : PortState) (queue queued taken : ℕ) (failed : Bool) → Placed p q
    → record (reader_state o q queue queued taken failed) { bytes = p.bytes }
    ≡ reader_state o p queue queued taken failed
asked o p q queue queued taken failed h = rw (h.fetched, h.refusals, h.references) refl

-- a position that was returned
abbrev pub ok_at : ℕ → Result ℕ Error
ok_at at = Ok at

counts_here : (to : SeekFrom) (position : Option ℕ) (bytes : Option (List ℕ)) (at : ℕ) → IsFromHere to
    → IfSome position (λ p. ok_at at ≡ Ok p) → CountsFrom position bytes to at
counts_here (Start x) position bytes at here answer = absurd here
counts_here (End n) position bytes at here answer = absurd here
counts_here (Current d) None bytes at here answer = tt
counts_here (Current d) (Some p) bytes at here answer = cc

pub means_here : {R : Type 0} (K : SeekerOf R) (to : SeekFrom) (old : R) (at queued : ℕ) (place : Option ℕ)
    → IsFromHere to → IfSome (K.position old) (λ p. ok_at at ≡ Ok p) → length (K.source.state old).queue ≡ queued
    → place ≡ place_of (bit_meant at queued to) → Means K to old place
means_here K to old at queued place here answer size meant = record {
  at = at;
  counts = counts_here to (K.position old) (K.bytes old) at here answer;
  meant = ap (λ n. place_of (bit_meant at n to)) size ∙ sym meant;
}

-- ---- from one reader to another

refused_from : {A : Type 0} (e : ErrorKind → Error) (may : Refusal → Type 0) (counted : ℕ) (old mid new : ReaderState)
    (r : Result A Error) → mid.refusals ≡ old.refusals → mid.references ≡ old.references
    → (h : RequestRefused e may counted mid r new)
    → (k : RequestRefused e may counted old r new) × (k.refusal ≡ h.refusal)
refused_from e may counted old mid new r refusals names h = (
  record {
    refusal = h.refusal;
    allowed = h.allowed;
    answer = h.answer;
    after = h.after;
    fetched = h.fetched;
    refusals = h.refusals ∙ ap (λ l. h.refusal ∷ l) refusals;
    references = h.references ∙ names;
    queue = h.queue;
    failed = h.failed;
  },
  refl,
)

pub goes_from : {R : Type 0} {K : SeekerOf R} {place counted : ℕ} {old mid new : R} {r : Result ℕ Error}
    → (K.source.state mid).refusals ≡ (K.source.state old).refusals → (K.source.state mid).references
    ≡ (K.source.state old).references
    → ((xs : List ℕ) → Tells K old xs → Tells K mid xs) → GoesTo K place counted mid r new
    → GoesTo K place counted old r new
unfolding refused_from
goes_from refusals names told (GoesTo.was_done answer h) = GoesTo.was_done answer (record {
  failed = h.failed;
  taken = h.taken;
  fetched = h.fetched;
  queued = h.queued;
  refusals = h.refusals ∙ refusals;
  references = h.references ∙ names;
  left = λ xs t. h.left xs (told xs t);
})
goes_from refusals names told (GoesTo.was_refused h) = GoesTo.was_refused (refused_from _ _ _ _ _ _ _ refusals names h).0
goes_from refusals names told (GoesTo.was_too_far h) = GoesTo.was_too_far (record {
  refused = (refused_from _ _ _ _ _ _ _ refusals names h.refused).0;
  some = h.some;
  ended = λ end xs t. h.ended end xs (told xs t);
})

-- ---- whole seeks

pub goes_on : {R : Type 0} {K : SeekerOf R} {d : ℤ} {place : ℕ} {old mid new : R} {r : Result ℕ Error}
    → AsksPlace K (Current d) old (Ok place) mid → GoesTo K place (K.source.state mid).fetched mid r new
    → SeeksBits K (Current d) old r new
goes_on (AsksPlace.had_failed h) goes = let p = h.answer in cc
goes_on {K = K} {d = d} {place = place} {old = old} {new = new} {r = r} (AsksPlace.was_done at fine means answer asked)
    goes =
    let same : at ≡ place = cc in
    SeeksBits.was_meant place (λ _. fine) (subst (λ n. Means K (Current d) old (Some n)) same means)
    (subst (λ n. GoesTo K place n old r new) (ap (λ (s : ReaderState). s.fetched) asked.same)
    (goes_from (ap (λ (s : ReaderState). s.refusals) asked.same)
    (ap (λ (s : ReaderState). s.references) asked.same) (told_still asked) goes))
goes_on (AsksPlace.was_refused fine h) goes = let p = h.answer in cc
goes_on (AsksPlace.was_rejected fine means answer asked) goes = cc

pub asks_in_vain : {R : Type 0} {K : SeekerOf R} {d : ℤ} {x : Error} {old mid : R} {r : Result ℕ Error} → r ≡ Err x
    → AsksPlace K (Current d) old (Err x) mid → SeeksBits K (Current d) old r mid
asks_in_vain same (AsksPlace.had_failed h) = SeeksBits.had_failed (record {
  from_here = h.from_here;
  failed = h.failed;
  answer = same ∙ h.answer;
  same = h.same;
})
asks_in_vain same (AsksPlace.was_done at fine means answer asked) = cc
asks_in_vain {K = K} same (AsksPlace.was_refused fine h) =
    SeeksBits.was_refused (λ _. fine) (record {
      refusal = h.refusal;
      allowed = h.allowed;
      answer = same ∙ h.answer;
      after = h.after;
      fetched = h.fetched;
      refusals = h.refusals;
      references = h.references;
      queue = h.queue;
      failed = h.failed;
    })
asks_in_vain same (AsksPlace.was_rejected fine means answer asked) =
    SeeksBits.was_rejected (λ _. fine) means (same ∙ answer) asked

-- the position that a stream returns for a seek to its end
end_told : (n : ℤ) (old new : Option ℕ) (bytes : Option (List ℕ)) (at : ℕ)
    → SeekMoves {E = Error} old new bytes (End (pos 0)) (Ok at) → CountsFrom old bytes (End n) at
end_told n None new bytes at moves = tt
end_told n (Some p) new None at moves = tt
end_told n (Some p) new (Some xs) at moves = omega (arith, moves.0)

pub end_means : {R : Type 0} {K : SeekerOf R} (n : ℤ) {old mid : R} {at : ℕ} {place : Option ℕ}
    → Begins K (End (pos 0)) old at mid → place_of (bit_meant at 0 (End n)) ≡ place → Means K (End n) old place
end_means {K = K} n {old = old} {mid = mid} {at = at} begins meant = record {
  at = at;
  counts = end_told n (K.position old) (K.position mid) (K.bytes old) at begins.moves;
  meant = meant;
}

pub round_trip : {R : Type 0} {K : SeekerOf R} {n : ℤ} {old mid new : R} {at place : ℕ} {r : Result ℕ Error}
    → Begins K (End (pos 0)) old at mid → place_of (bit_meant at 0 (End n)) ≡ Some place
    → GoesTo K place (K.source.state mid).fetched mid r new → SeeksBits K (End n) old r new
round_trip {K = K} {n = n} {old = old} {new = new} {place = place} {r = r} begins meant goes =
    SeeksBits.was_meant place (λ h. absurd h) (end_means n begins meant)
    (subst (λ m. GoesTo K place m old r new) begins.fetched
    (goes_from begins.refusals begins.references (told_anew begins) goes))

-- nothing is left after the end
left_at_end : {R : Type 0} (K : SeekerOf R) (old mid : R) (at : ℕ) (xs : List ℕ) → Begins K (End (pos 0)) old at mid
    → Tells K old xs → (K.source.state mid).bytes ≡ Some []
left_at_end K old mid at xs begins told =
    let move = moved K (End (pos 0)) old at mid xs begins told in
    let target = subst (λ b. IsSeekTarget told.at b (End (pos 0)) at) told.bytes move.0 in
    told.rest mid at xs move.1 (kept (K.bytes old) (K.bytes mid) xs begins.bytes told.bytes)
    ∙ ap Some (drop_all at xs (omega (arith, target)))

pub none_back : {R : Type 0} {K : SeekerOf R} {n : ℤ} {old mid new : R} {at : ℕ} → Begins K (End (pos 0)) old at mid
    → place_of (bit_meant at 0 (End n)) ≡ None → K.source.state new ≡ failed_reader (K.source.state mid)
    → SeeksBits K (End n) old (Err Place) new
none_back {K = K} {n = n} {old = old} {mid = mid} {at = at} begins meant fails =
    SeeksBits.was_rejected (λ h. absurd h) (end_means n begins meant) refl (record {
      failed = ap (λ (s : ReaderState). s.failed) fails;
      queue = ap (λ (s : ReaderState). s.queue) fails;
      fetched = ap (λ (s : ReaderState). s.fetched) fails ∙ begins.fetched;
      refusals = ap (λ (s : ReaderState). s.refusals) fails ∙ begins.refusals;
      references = ap (λ (s : ReaderState). s.references) fails ∙ begins.references;
      ended = λ xs told. ap (λ (s : ReaderState). s.bytes) fails ∙ left_at_end K old mid at xs begins told;
    })

pub start_place : (x : ℕ) → x < 2 ^ 64 → place_of (pos x) ≡ Some x
start_place x below = ap (λ b. if b then Some x else None) (lt-ltb x (2 ^ 64) below)

pub goes_there : {R : Type 0} {K : SeekerOf R} {place : ℕ} {old new : R} {r : Result ℕ Error} → place < 2 ^ 64
    → GoesTo K place (K.source.state old).fetched old r new → SeeksBits K (Start place) old r new
goes_there {place = place} below goes = SeeksBits.was_meant place (λ h. absurd h) (record {
  at = 0;
  counts = tt;
  meant =
      start_place place below;
}) goes

-- ---- bytes in memory

near_place : (to : SeekFrom) → IsByteSeek to → IsNear to
near_place (Start n) near = omega (arith, near)
near_place (End d) near = near
near_place (Current d) near = near

pub slice_refuses_none : (refusal : Refusal) → MaySeek (MayRefuseSeek slice_stream slice_refuses_seek) refusal → ⊥
slice_refuses_none refusal (to, near, may) = may.refused.1 (slice_in_range may.old to (near_place to near))

pub slice_tells : (s : Slice) (at : ℕ) (xs : List ℕ) → Some (slice_place s) ≡ Some at → Some (slice_bytes s) ≡ Some xs
    → slice_remaining s ≡ Some (drop at xs)
slice_tells s at xs position bytes =
    let same_place : slice_place s ≡ at = cc in
    let same_bytes : slice_bytes s ≡ xs = cc in
    slice_rest s ∙ ap₂ (λ n l. Some (drop n l)) same_place same_bytes
