-- An encoding written in parts.
use Rattle.std.proofs.Common.{◌≡◌, ℕ, ◌+◌, ◌^◌, ◌<◌, ◌≤◌, IsTrue, Bool, false, List, [], ◌∷◌, ◌++◌, length, replicate, Result, Ok, Err, refl, sym, ◌∙◌, ap, subst, append-nil, append_assoc, length-append, arith}
use Rattle.std.specs.Result.{IsErrAnd}
use Rattle.std.proofs.lemmas.List.{replicate-append-replicate}
use Rattle.bitstream_number.specs.Word.{Order, word}
use Rattle.bitstream_order.specs.Reference.{capacity_of}
use Rattle.bitstream_count.specs.Codec.{Encoder}
use Rattle.bitstream_count.specs.declared.error.Error.{Error}
use Rattle.bitstream_count.specs.declared.error.Error.TheVariants.{Failed, CounterOverflow}
use Rattle.bitstream_stream.specs.Writing.Sink.{Sink, Writes, Appended, Kept, WriteRefused, IsWithin, IsPastLimit, had_failed, was_rejected, past_limit, was_refused, was_done}
use Rattle.bitstream_stream.specs.Writing.WriteTable.{unsigned}
use Rattle.bitstream_stream.proofs.Writing.WriteLemmas.{unsigned-fits, unsigned-none}
use Rattle.bitstream_stream.proofs.Writing.SinkLemmas.{not_past_limit, within_less, past_if_not_within, untold, empty}
use Rattle.bitstream_stream.proofs.Shared.{exit_is}

-- the sink had not failed, and x is appended
pub record Begun {S : Type 0} (K : Sink S) (old : S) (x : List Bool) (new : S) : Type 0 where
  pub was_sound : K.failed old ≡ false
  pub within : IsWithin K.limit (K.len old + length x)
  pub done : Appended K old x new

module _ {S : Type 0} (K : Sink S) where
  pub appended_none : (s : S) → K.failed s ≡ false → Appended K s [] s
  appended_none s sound = record { grown = K.appends_nil s; sound = sound; refusals = refl; references = refl }

  pub appended_more : (s t z : S) (x y : List Bool) → Appended K s x t → Appended K t y z → Appended K s (x ++ y) z
  appended_more s t z x y h k =
      record {
        grown = K.appends_trans s t z x y h.grown k.grown;
        sound = k.sound;
        refusals = k.refusals ∙ h.refusals;
        references = k.references ∙ h.references;
      }

  -- a failure of a part of an encoding, after appended bits and before others, is a failure of the encoding
  pub WriteRefused-within : (old mid new : S) (d : Error) (x y z word : List Bool) → word ≡ x ++ (y ++ z)
      → K.appends old x mid → K.refusals mid ≡ K.refusals old → K.references mid ≡ K.references old
      → WriteRefused K mid y d new → WriteRefused K old word d new
  WriteRefused-within old mid new d x y z word whole grown refusals references k =
      let at = K.appends_len old mid x grown in
      let size = length-append x k.prefix in
      let least = k.least in
      let most = k.most in
      record {
        refusal = k.refusal;
        allowed = k.allowed;
        answer = k.answer;
        full = omega (
          arith,
          at,
          k.full,
          ap length whole ∙ length-append x (y ++ z)
              ∙ ap (λ (n : ℕ). length x + n) (length-append y z),
        );
        prefix = x ++ k.prefix;
        back = k.back ++ z;
        parts = whole ∙ ap (λ (l : List Bool). x ++ (l ++ z)) k.parts
            ∙ ap (λ (l : List Bool). x ++ l) (append_assoc k.prefix k.back z)
            ∙ sym (append_assoc x k.prefix (k.back ++ z));
        before = K.fills_behind old mid x k.prefix k.refusal.before grown k.before;
        after = k.after;
        whole = k.whole;
        least = omega arith;
        most = omega arith;
        asked = let asked = k.asked in omega (
          arith,
          at,
          ap length whole ∙ length-append x (y ++ z)
              ∙ ap (λ (n : ℕ). length x + n) (length-append y z),
        );
        capacity = k.capacity ∙ ap capacity_of references;
        refusals = k.refusals ∙ ap (λ l. k.refusal ∷ l) refusals;
        failed = k.failed;
        references = k.references ∙ references;
      }

  -- of its last part, and of its prefix
  pub WriteRefused-behind : (old mid new : S) (d : Error) (x y : List Bool) → Appended K old x mid
      → WriteRefused K mid y d new → WriteRefused K old (x ++ y) d new
  WriteRefused-behind old mid new d x y h k = WriteRefused-within old mid new d x y [] (x
      ++ y) (ap (λ (l : List Bool). x ++ l) (sym (append-nil y))) h.grown h.refusals h.references k

  pub WriteRefused-longer : (old new : S) (d : Error) (y z : List Bool) → WriteRefused K old y d new
      → WriteRefused K old (y ++ z) d new
  WriteRefused-longer old new d y z k = WriteRefused-within old old new d [] y z (y ++ z) refl (K.appends_nil old) refl
      refl k

  -- a call that returns `Ok` appended its encoding
  pub from_ok : {T : Type 0} (e : Encoder) (old : S) (r : Result T Error) (new : S) (t : T) (x : List Bool)
      → Writes K e old r new → r ≡ Ok t → e (K.len old) ≡ Ok x → Begun K old x new
  from_ok e old r new t x (had_failed f re k) q h = cc
  from_ok e old r new t x (was_rejected d f en re k) q h = cc
  from_ok e old r new t x (past_limit y f en b re k) q h = cc
  from_ok e old r new t x (was_refused y d f en wi re k) q h = cc
  from_ok e old r new t x (was_done y w f en wi re a) q h = let same : y ≡ x = cc in
      subst (λ (z : List Bool). Begun K old z new) same (record { was_sound = f; within = wi; done = a })

  -- and the other way
  pub to_ok : {T : Type 0} (e : Encoder) (old : S) (r : Result T Error) (new : S) (t : T) (x : List Bool)
      → Begun K old x new → r ≡ Ok t → e (K.len old) ≡ Ok x → Writes K e old r new
  to_ok e old r new t x b q h = was_done x t b.was_sound h b.within q b.done

  -- one part more
  pub Begun-more : (old mid new : S) (x y : List Bool) → Begun K old x mid → Begun K mid y new
      → Begun K old (x ++ y) new
  Begun-more old mid new x y b c =
      let far : K.len mid + length y ≡ K.len old + length (x ++ y) =
      omega (arith, length-append x y, K.appends_len old mid x b.done.grown) in
      record {
        was_sound = b.was_sound;
        within = subst (IsWithin K.limit) far c.within;
        done =
            appended_more old mid new x y b.done c.done;
      }

  -- a later part of an encoding that has room returns an error
  pub stop_later : {T V : Type 0} (e f : Encoder) (old mid : S) (r : Result T Error) (r' : Result V Error)
      (new : S) (d : Error) (x y z : List Bool)
      → Begun K old x mid → Writes K e mid r new → r ≡ Err d → r' ≡ Err d → e (K.len mid) ≡ Ok y → f (K.len old)
      ≡ Ok (x ++ (y ++ z)) → IsWithin K.limit (K.len old + length (x ++ (y ++ z))) → Writes K f old r' new
  stop_later e f old mid r r' new d x y z b (had_failed p re k) q q' h h' room = let n = b.done.sound in cc
  stop_later e f old mid r r' new d x y z b (was_rejected d' p en re k) q q' h h' room = cc
  stop_later e f old mid r r' new d x y z b (past_limit y' p en be re k) q q' h h' room =
      let same : y' ≡ y = cc in
      absurd (not_past_limit K.limit _ _ room (omega (
        arith,
        ap length same,
        length-append y z,
        length-append x (y ++ z),
        K.appends_len old mid x b.done.grown,
      )) be)
  stop_later e f old mid r r' new d x y z b (was_refused y' d' p en wi re k) q q' h h' room =
      let same : y' ≡ y = cc in
      was_refused (x ++ (y ++ z)) d' b.was_sound h' room (cc)
      (WriteRefused-behind old mid new d' x (y ++ z) b.done
      (WriteRefused-longer mid new d' y z (subst (λ (l : List Bool). WriteRefused K mid l d' new) same k)))
  stop_later e f old mid r r' new d x y z b (was_done y' w p en wi re a) q q' h h' room = cc

  -- the last part of an encoding that has room, whatever its call returns
  pub last : {T : Type 0} (e f : Encoder) (old mid : S) (r : Result T Error) (new : S) (x y : List Bool)
      → Begun K old x mid → Writes K e mid r new → e (K.len mid) ≡ Ok y → f (K.len old) ≡ Ok (x ++ y)
      → IsWithin K.limit (K.len old + length (x ++ y)) → Writes K f old r new
  last e f old mid (Ok t) new x y b w h h' room = to_ok f old (Ok t) new t (x
      ++ y) (Begun-more old mid new x y b (from_ok e mid (Ok t) new t y w refl h)) refl h'
  last e f old mid (Err d) new x y b w h h' room =
      stop_later e f old mid (Err d) (Err d) new d x y [] b w refl refl h (h'
      ∙ ap (λ (l : List Bool). Ok (x ++ l)) (sym (append-nil y)))
      (subst (λ (l : List Bool). IsWithin K.limit (K.len old + length (x ++ l))) (sym (append-nil y)) room)

  -- a call of no bits that found the sink failed, before a call of any encoder
  pub probe_failed : {T V : Type 0} (e f : Encoder) (old : S) (r : Result T Error) (r' : Result V Error)
      (new : S) (d : Error)
      → Writes K e old r new → r ≡ Err d → r' ≡ Err d → e (K.len old) ≡ Ok [] → Writes K f old r' new
  probe_failed e f old r r' new d w q q' h = let z = empty K e old r new d w q h in let a = z.1 in let same : d
      ≡ Failed = cc in had_failed z.0 (q' ∙ ap Err same) z.2

  -- nothing was appended to a sink that had not failed
  pub Begun-kept : (old new : S) → Begun K old [] new → Kept K old new
  Begun-kept old new b = record {
    grown = b.done.grown;
    failed = b.done.sound ∙ sym b.was_sound;
    refusals =
        b.done.refusals;
    references = b.done.references;
  }

  -- a call of no bits on a sink that has not failed, before a failed request
  pub probe_refused : {V : Type 0} (f : Encoder) (old : S) (r' : Result V Error) (new : S) (d : Error)
      → Begun K old [] new → f (K.len old) ≡ Err d → r' ≡ Err d → Writes K f old r' new
  probe_refused f old r' new d b h q = was_rejected d b.was_sound h q (Begun-kept old new b)

  -- and before an encoding that has no room
  pub probe_passed : {V : Type 0} (f : Encoder) (old : S) (r' : Result V Error) (new : S) (x : List Bool)
      → Begun K old [] new → f (K.len old) ≡ Ok x → IsPastLimit K.limit (K.len old + length x) → r'
      ≡ Err CounterOverflow → Writes K f old r' new
  probe_passed f old r' new x b h past q = past_limit x b.was_sound h past q (Begun-kept old new b)

  -- ---- an encoding in several parts, as a body of calls writes it

  -- it begins with an encoding of no bits, which failed
  pub probe_stops : {T V : Type 0} (o : Order) (size v : ℕ) (f : Encoder) {old new : S} {d : Error}
      {r : Result V Error} → Writes {T = T} K (unsigned o size 0 v) old (Err d) new → IsErrAnd r (λ y. y ≡ d)
      → Writes K f old r new
  probe_stops o size v f {old = old} {new = new} {d = d} {r = r} w h =
      probe_failed (unsigned o size 0 v) f old (Err d) r new d w refl (exit_is r h) (unsigned-none o size v (K.len old))

  -- or which was written, before it is asked whether there is room for the others
  module _ (o : Order) (size v : ℕ) {T : Type 0} {old mid : S} {t : T}
      (probe : Writes K (unsigned o size 0 v) old (Ok t) mid) where
    pub probed : Begun K old [] mid
    probed = from_ok (unsigned o size 0 v) old (Ok t) mid t [] probe refl (unsigned-none o size v (K.len old))

    pub probed_len : K.len mid ≡ K.len old
    probed_len = omega (arith, K.appends_len old mid [] probed.done.grown)

    pub room_for : (n m : ℕ) → m ≡ n → IsWithin K.limit (K.len mid + n) → IsWithin K.limit (K.len old + m)
    room_for n m same = within_less K.limit (K.len old + m) (K.len mid + n) (omega (arith, same, probed_len))

    pub no_room_for : {V : Type 0} (f : Encoder) (x : List Bool) (n : ℕ) (room : Bool) → room ≡ false
        → (IsWithin K.limit (K.len mid + n) → IsTrue room) → length x ≡ n → f (K.len old) ≡ Ok x
        → Writes {T = V} K f old (Err CounterOverflow) mid
    no_room_for f x n room lacks asked size is =
        let all : K.len old + length x ≡ K.len mid + n = omega (arith, size, probed_len) in
        probe_passed f old (Err CounterOverflow) mid x probed is
        (rw all (past_if_not_within K.limit (K.len mid + n) (λ h. untold _ room lacks asked h))) refl

  -- the write of a part failed, where there is room for n bits, which are all
  pub part_stops : {T V : Type 0} {old mid new : S} {d : Error} {r : Result V Error} (e f : Encoder)
      (x y z : List Bool) (n : ℕ) → Begun K old x mid → Writes {T = T} K e mid (Err d) new → IsErrAnd r (λ q. q ≡ d)
      → e (K.len mid) ≡ Ok y → (word : List Bool) → f (K.len old) ≡ Ok word → word ≡ x ++ (y ++ z) → length word ≡ n
      → IsWithin K.limit (K.len old + n) → Writes K f old r new
  part_stops {old = old} {mid = mid} {new = new} {d = d} {r = r} e f x y z n b w h is word whole parts size room =
      stop_later e f old mid (Err d) r new d x y z b w refl (exit_is r h) is (whole
      ∙ ap Ok parts) (subst (λ (k : ℕ). IsWithin K.limit (K.len old + k)) (sym (ap length (sym parts) ∙ size)) room)

  -- ---- one bit repeated: the number v of k bits

  module _ (bit : Bool) (o : Order) (size a k v : ℕ) (le : k ≤ size) (small : v < 2 ^ k) (same : (o : Order)
      → word o k v ≡ replicate k bit) {old mid new : S} (b : Begun K old (replicate a bit) mid) where
    -- it was accepted after others
    pub lead_more : {T : Type 0} {t : T} (n : ℕ) → a + k ≡ n → Writes K (unsigned o size k v) mid (Ok t) new
        → Begun K old (replicate n bit) new
    lead_more {t = t} n sum w =
        subst (λ x. Begun K old x new) (replicate-append-replicate a k bit ∙ ap (λ (i : ℕ). replicate i bit) sum)
        (Begun-more old mid new (replicate a bit) (replicate k bit) b
        (from_ok (unsigned o size k v) mid (Ok t) new t (replicate k bit) w refl
        (unsigned-fits o size k v (K.len mid) le small ∙ ap Ok (same o))))

    -- it failed
    pub lead_stops : {T V : Type 0} {d : Error} {r : Result V Error} (f : Encoder) (word rest : List Bool) (n : ℕ)
        → Writes {T = T} K (unsigned o size k v) mid (Err d) new → IsErrAnd r (λ q. q ≡ d) → f (K.len old) ≡ Ok word
        → word ≡ replicate a bit ++ (replicate k bit ++ rest) → length word ≡ n → IsWithin K.limit (K.len old + n)
        → Writes K f old r new
    lead_stops f word rest n w h whole parts =
        part_stops (unsigned o size k v) f (replicate a bit) (replicate k bit) rest n b w h
        (unsigned-fits o size k v (K.len mid) le small ∙ ap Ok (same o)) word whole parts
