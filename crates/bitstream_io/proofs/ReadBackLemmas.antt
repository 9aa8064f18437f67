-- What was written is read back, call by call and in lists.
use Rattle.std.proofs.Common.{◌≡◌, ℕ, zero, suc, ℤ, pos, negsuc, ◌+◌, ◌*◌, ◌%◌, ◌^◌, ◌<◌, ◌≤◌, ◌==◌, ◌||◌, nat_lt, Bool, true, false, cond, List, [], ◌∷◌, ◌++◌, length, drop, replicate, Option, Some, None, Result, Ok, Err, refl, sym, ap, ap₂, ◌∙◌, subst, append_assoc, length-append, add-zero, arith}
use Rattle.std.specs.List.{All, AllByRecursion}
use Rattle.std.proofs.Math.Nat.{mod-eq_of_lt}
use Rattle.std.proofs.Math.Seq.{drop-append_seam}
use Rattle.std.proofs.lemmas.Bool.{ne_eqb}
use Rattle.std.proofs.lemmas.Bool.Decides.{nat_tests}
use Rattle.std.proofs.lemmas.List.{length-replicate, length-map}
use Rattle.std.proofs.lemmas.List.Elements.{recursion_from_All}
use Rattle.bitstream_number.specs.Word.{Order, FitsSignedBits, word, number, signed_word, signed_number, zig, zag, bits, bytes_of}
use Rattle.bitstream_number.proofs.Bytes.{AreBytes}
use Rattle.bitstream_number.proofs.ByteLemmas.{bytes_of-bits}
use Rattle.bitstream_number.proofs.SignedLemmas.{signed_number-signed_word, zag-zig}
use Rattle.bitstream_number.proofs.WordLemmas.{length-word, length-bits, number-word}
use Rattle.bitstream_count.specs.Codec.{Decoder, Done, word_prefix, and_then, pure}
use Rattle.bitstream_count.specs.Unary.{unary}
use Rattle.bitstream_count.specs.Vbr.{vbr_word}
use Rattle.bitstream_count.specs.declared.error.Error.{Error}
use Rattle.bitstream_count.specs.declared.error.Error.TheVariants.{Checked, NoSignBit, RunTooLong, OutOfMemory}
use Rattle.bitstream_count.specs.declared.checked_error.CheckedError.TheVariants.{ExcessiveBits, ExcessiveValue}
use Rattle.bitstream_count.proofs.UnaryLemmas.{read_unary-unary}
use Rattle.bitstream_count.proofs.VbrLemmas.{vbr_word_accepted, read_vbr-IsAccepted, zig-lt}
use Rattle.bitstream_order.specs.Fault.{read_refusal_of}
use Rattle.bitstream_order.specs.Refusal.{TrueEnds}
use Rattle.bitstream_stream.specs.Alignment.{to_boundary}
use Rattle.bitstream_stream.specs.Reading.Reads.{BitSource}
use Rattle.bitstream_stream.specs.Reading.ReadTable.{first_bit, bit_decoder, unsigned_decoder, signed_decoder, unary_decoder, groups_decoder, vbr_decoder, signed_groups_decoder, signed_vbr_decoder, bytes_decoder, skip_decoder, align_decoder}
use Rattle.bitstream_stream.specs.Sequence.{accepted_bits, write_sequence, answer_and, read_sequence}
use Rattle.bitstream_stream.specs.Writing.WriteTable.{unsigned, signed, fits_signed}
use Rattle.bitstream_stream.proofs.Reading.CodecLemmas.{word_prefix-some, and_then-ok}
use Rattle.bitstream_value.proofs.BackLemmas.{signed-word}
use Rattle.bitstream_value.proofs.SureLemmas.{unsigned-word}
use Rattle.bitstream_io.proofs.ReadScriptLemmas.{free_call}
use Rattle.bitstream_io.specs.ReadBack.{IsCall, accepted_calls, matching_read, matching_reads, value_in, answer_of, answers_of, StandsBefore, ReadsBack}
use Rattle.bitstream_io.specs.ReadBack as back
use Rattle.bitstream_io.specs.ReadScript.{map_answer, read_decoder, asks_memory, read_decoders, sequence_answers, place_behind, failed_answers, ReadsSequence, AsksNoMemory}
use Rattle.bitstream_io.specs.ReadScript as lists
use Rattle.bitstream_io.specs.Script.{write_encoder, write_encoders}
use Rattle.bitstream_io.specs.declared.script.answers.Answer.{Answer}
use Rattle.bitstream_io.specs.declared.script.answers.Answer.TheVariants as answer
use Rattle.bitstream_io.specs.declared.script.read_call.ReadCall.{ReadCall}
use Rattle.bitstream_io.specs.declared.script.write_call.WriteCall.{WriteCall}
use Rattle.bitstream_io.specs.declared.script.write_call.WriteCall.TheVariants.{Bit, U8, U16, U32, U64, U128, I8, I16, I32, I64, I128, Unary0, Unary1, Vbr4, Vbr8, SignedVbr4, SignedVbr8, Bytes, Pad, Align}

-- ---- one call

-- after p bits the read takes this encoding, whatever follows it, and returns a
pub record Found {A : Type 0} (e : Decoder A) (p : ℕ) (w : List Bool) (a : A) : Type 0 where
  pub takes : (rest : List Bool) → e.reads p (w ++ rest) ≡ Done (length w) (Ok a)

-- a read whose result is made another value
pub mapped-found : {A B : Type 0} (make : A → B) {e : Decoder A} {p : ℕ} {w : List Bool} {a : A} → Found e p w a
    → Found (and_then e (λ v. pure (make v))) p w (make a)
mapped-found make {e = e} {p = p} {w = w} {a = a} h = record {
  takes = λ rest. and_then-ok e (λ v. pure (make v)) p (w ++ rest) (length w) a (h.takes rest)
      ∙ ap (λ (n : ℕ). Done n (Ok (make a))) (add-zero (length w));
}

-- a read that takes as many bits, and returns g of them
pub word-found : {A : Type 0} (e : Decoder A) (n p : ℕ) (g : List Bool → A) (w : List Bool) (a : A)
    → ((b : List Bool) → e.reads p b ≡ word_prefix n (λ u. Ok (g u)) b) → length w ≡ n → g w ≡ a → Found e p w a
word-found e n p g w a reads size value = record {
  takes = λ rest. reads (w ++ rest) ∙ word_prefix-some n (λ u. Ok (g u)) w rest size
      ∙ ap₂ (λ i v. Done i (Ok v)) (sym size) value;
}

abbrev ok : List Bool → Result (List Bool) Error
ok w = Ok w

-- an encoding with no error before it
behind_error : (b : Bool) (x : Error) (r : Result (List Bool) Error) (w : List Bool) → cond b (Err x) r ≡ Ok w
    → (b ≡ false) × (r ≡ Ok w)
behind_error true x r w e = absurd cc
behind_error false x r w e = (refl, e)

-- an encoding, else an error
before_error : (b : Bool) (x : Error) (u w : List Bool) → cond b (Ok u) (Err x) ≡ Ok w → (b ≡ true) × (u ≡ w)
before_error true x u w e = (refl, cc)
before_error false x u w e = absurd cc

pub bit-found : (b : Bool) (p : ℕ) → Found bit_decoder p (b ∷ []) b
bit-found b p = word-found bit_decoder 1 p first_bit (b ∷ []) b (λ _. refl) refl refl

value_fits : (n v : ℕ) → ((n == 0) || nat_lt v (2 ^ n)) ≡ true → v % 2 ^ n ≡ value_in n v
value_fits zero v h = omega arith
value_fits (suc n) v h =
    let fits : v < 2 ^ suc n = grind (arith, nat_tests) in
    rw (ne_eqb (suc n) 0 (λ e. omega arith)) (mod-eq_of_lt fits)

unsigned-ok : (o : Order) (size n v len : ℕ) (w : List Bool) → unsigned o size n v len ≡ Ok w
    → (n ≤ size) × (word o n v ≡ w) × (v % 2 ^ n ≡ value_in n v)
unfolding unsigned
unsigned-ok o size n v len w e =
    let wide = behind_error (nat_lt size n) (Checked ExcessiveBits) _ w e in
    let fits = before_error ((n == 0) || nat_lt v (2 ^ n)) (Checked ExcessiveValue) (word o n v) w wide.1 in
    let not_wide : nat_lt size n ≡ false = wide.0 in
    let within : n ≤ size = grind (arith, nat_tests) in
    (within, fits.1, value_fits n v fits.0)

pub unsigned-found : (o : Order) (size n v len p : ℕ) (w : List Bool) → unsigned o size n v len ≡ Ok w
    → Found (unsigned_decoder o size n) p w (value_in n v)
unsigned-found o size n v len p w e =
    let k = unsigned-ok o size n v len w e in
    word-found (unsigned_decoder o size n) n p (number o) w (value_in n v) ((unsigned-word o size n k.0).reads p)
    (ap length (sym k.1) ∙ length-word o n v) (ap (number o) (sym k.1) ∙ number-word o n v ∙ k.2)

fits-is : (n : ℕ) (x : ℤ) → fits_signed n x ≡ true → FitsSignedBits n x
fits-is n (pos k) h = grind (arith, nat_tests)
fits-is n (negsuc k) h = grind (arith, nat_tests)

signed-ok : (o : Order) (size n : ℕ) (x : ℤ) (len : ℕ) (w : List Bool) → signed o size n x len ≡ Ok w
    → (1 ≤ n) × (n ≤ size) × (signed_word o n x ≡ w) × FitsSignedBits n x
unfolding signed
signed-ok o size n x len w e =
    let some = behind_error (n == 0) NoSignBit _ w e in
    let wide = behind_error (nat_lt size n) (Checked ExcessiveBits) _ w some.1 in
    let fits = before_error (fits_signed n x) (Checked ExcessiveValue) (signed_word o n x) w wide.1 in
    let not_none : (n == 0) ≡ false = some.0 in
    let not_wide : nat_lt size n ≡ false = wide.0 in
    let least : 1 ≤ n = grind (arith, nat_tests) in
    let within : n ≤ size = grind (arith, nat_tests) in
    (least, within, fits.1, fits-is n x fits.0)

pub signed-found : (o : Order) (size n : ℕ) (x : ℤ) (len p : ℕ) (w : List Bool) → signed o size n x len ≡ Ok w
    → Found (signed_decoder o size n) p w x
signed-found o size n x len p w e =
    let k = signed-ok o size n x len w e in
    word-found (signed_decoder o size n) n p (signed_number o) w x ((signed-word o size n k.0 k.1).reads p)
    (ap length (sym k.2) ∙ length-word o n _)
    (ap (signed_number o) (sym k.2) ∙ signed_number-signed_word o n x k.0 k.3)

pub unary-found : (stop : Bool) (k p : ℕ) → k < 2 ^ 32 → Found (unary_decoder stop) p (unary stop k) k
unfolding unary_decoder
unary-found stop k p small = record { takes = λ rest. read_unary-unary stop k rest small }

-- a number in groups, by the strict read and by the lenient one
pub groups-found : (strict : Bool) (o : Order) (field size limit v p : ℕ) → 2 ≤ field → 0 < size → limit ≤ 2 ^ size
    → v < limit
    → Found (groups_decoder strict o field size limit) p (vbr_word o field v) v
unfolding groups_decoder
groups-found strict o field size limit v p wide some most small =
    let w = vbr_word o field v in
    let taken = vbr_word_accepted o field (omega arith) strict size limit v wide some most small in
    record { takes = λ rest. read_vbr-IsAccepted o field (omega arith) strict size limit w v rest wide taken }

pub signed_groups-found : (strict : Bool) (o : Order) (field size : ℕ) (x : ℤ) (p : ℕ) → 2 ≤ field → 0 < size
    → FitsSignedBits size x
    → Found (signed_groups_decoder strict o field size) p (vbr_word o field (zig x)) x
unfolding signed_groups_decoder
signed_groups-found strict o field size x p wide some fits =
    subst (λ (y : ℤ). Found (signed_groups_decoder strict o field size) p (vbr_word o field (zig x)) y) (zag-zig x)
    (mapped-found zag
    (groups-found strict o field size (2 ^ size) (zig x) p wide some (omega arith) (zig-lt size x some fits)))

pub bytes-are : (bytes : List ℕ) → AllByRecursion (λ b. b < 256) bytes → AreBytes bytes
bytes-are [] h = tt
bytes-are (b ∷ bytes) h = (h.0, bytes-are bytes h.1)

pub bytes-found : (o : Order) (bytes : List ℕ) (p : ℕ) → AreBytes bytes
    → Found (bytes_decoder o (length bytes)) p (bits o bytes) bytes
unfolding bytes_decoder
bytes-found o bytes p fit =
    let n = length bytes in
    word-found (bytes_decoder o n) (8 * n) p (bytes_of o n) (bits o bytes) bytes (λ _. refl) (length-bits o bytes)
    (bytes_of-bits o bytes fit)

pub skip-found : (n p : ℕ) → Found (skip_decoder n) p (replicate n false) tt
unfolding skip_decoder
skip-found n p =
    word-found (skip_decoder n) n p (λ _. tt) (replicate n false) tt (λ _. refl) (length-replicate n false) refl

align-found : (len p : ℕ) → p % 8 ≡ len % 8 → Found align_decoder p (replicate (to_boundary len) false) tt
unfolding align_decoder
align-found len p same =
    let at : to_boundary len ≡ to_boundary p = omega arith in
    word-found align_decoder (to_boundary p) p (λ _. tt) (replicate (to_boundary len) false) tt (λ _. refl)
    (length-replicate (to_boundary len) false ∙ at) refl

-- a call that accepts each value
plain-found : {A : Type 0} {e : Decoder A} {p : ℕ} {u w : List Bool} {a : A} → ok u ≡ Ok w → Found e p u a
    → Found e p w a
plain-found {e = e} {p = p} {u = u} {w = w} {a = a} h found =
    subst (λ (v : List Bool). Found e p v a) (let is : u ≡ w = cc in is) found

-- numbers of 64 bits, of variable width
vbr_call : (o : Order) (field : ℕ) {v p : ℕ} {w : List Bool} → 2 ≤ field → ok (vbr_word o field v) ≡ Ok w → v < 2 ^ 64
    → Found (map_answer answer.Vbr (vbr_decoder o field 64 (2 ^ 64))) p w (answer.Vbr v)
vbr_call o field {v = v} {p = p} wide e h =
    plain-found e (mapped-found answer.Vbr (groups-found true o field 64 (2 ^ 64) v p wide (omega arith) (omega
    arith) h))

signed_vbr_call : (o : Order) (field : ℕ) {x : ℤ} {p : ℕ} {w : List Bool} → 2 ≤ field
    → ok (vbr_word o field (zig x)) ≡ Ok w → FitsSignedBits 64 x
    → Found (map_answer answer.SignedVbr (signed_vbr_decoder o field 64)) p w (answer.SignedVbr x)
signed_vbr_call o field {x = x} {p = p} wide e h =
    plain-found e (mapped-found answer.SignedVbr (signed_groups-found true o field 64 x p wide (omega arith) h))

-- the encoding of an accepted call is found by its matching read
pub call-found : (o : Order) (call : WriteCall) (len p : ℕ) (w : List Bool) → IsCall call → p % 8 ≡ len % 8
    → write_encoder o call len ≡ Ok w → Found (read_decoder o (matching_read call)) p w (answer_of call)
call-found o (Bit b) len p w h same e = plain-found e (mapped-found answer.Bit (bit-found b p))
call-found o (U8 n v) len p w h same e = mapped-found answer.U8 (unsigned-found o 8 n v len p w e)
call-found o (U16 n v) len p w h same e = mapped-found answer.U16 (unsigned-found o 16 n v len p w e)
call-found o (U32 n v) len p w h same e = mapped-found answer.U32 (unsigned-found o 32 n v len p w e)
call-found o (U64 n v) len p w h same e = mapped-found answer.U64 (unsigned-found o 64 n v len p w e)
call-found o (U128 n v) len p w h same e = mapped-found answer.U128 (unsigned-found o 128 n v len p w e)
call-found o (I8 n x) len p w h same e = mapped-found answer.I8 (signed-found o 8 n x len p w e)
call-found o (I16 n x) len p w h same e = mapped-found answer.I16 (signed-found o 16 n x len p w e)
call-found o (I32 n x) len p w h same e = mapped-found answer.I32 (signed-found o 32 n x len p w e)
call-found o (I64 n x) len p w h same e = mapped-found answer.I64 (signed-found o 64 n x len p w e)
call-found o (I128 n x) len p w h same e = mapped-found answer.I128 (signed-found o 128 n x len p w e)
call-found o (Unary0 k) len p w h same e = plain-found e (mapped-found answer.Unary (unary-found false k p h))
call-found o (Unary1 k) len p w h same e = plain-found e (mapped-found answer.Unary (unary-found true k p h))
call-found o (Vbr4 v) len p w h same e = vbr_call o 4 (omega arith) e h
call-found o (Vbr8 v) len p w h same e = vbr_call o 8 (omega arith) e h
call-found o (SignedVbr4 x) len p w h same e = signed_vbr_call o 4 (omega arith) e h
call-found o (SignedVbr8 x) len p w h same e = signed_vbr_call o 8 (omega arith) e h
call-found o (Bytes bytes) len p w h same e =
    let fit = bytes-are bytes (recursion_from_All (λ b. b < 256) bytes h) in
    plain-found e (mapped-found answer.Bytes (bytes-found o bytes p fit))
call-found o (Pad n) len p w h same e = plain-found e (mapped-found (λ _. answer.Done) (skip-found n p))
call-found o Align len p w h same e = plain-found e (mapped-found (λ _. answer.Done) (align-found len p same))

-- ---- lists of calls

-- a call's result and the place after it
abbrev Step : Type 0
Step = Result Answer Error × ℕ

-- results in their places
abbrev Places : Type 0
Places = List (Option (Result Answer Error))

-- one read first, which returns a value
run-step : (e : Decoder Answer) (es : List (Decoder Answer)) (p n : ℕ) (b : List Bool) (a : Answer)
    → e.reads p b ≡ Done n (Ok a) → read_sequence (e ∷ es) p b ≡ (Ok a, p + n) ∷ read_sequence es (p + n) (drop n b)
run-step e es p n b a h = ap (λ prefix. answer_and prefix p (λ (k : ℕ). read_sequence es (p + k) (drop k b))) h

module _ (o : Order) (more : List Bool) where
  abbrev words : List WriteCall → ℕ → List Bool
  words calls len = write_sequence (write_encoders None o calls) len

  -- the matching reads of the accepted calls
  abbrev reads : List WriteCall → ℕ → List (Decoder Answer)
  reads calls len = read_decoders o (matching_reads (accepted_calls o calls len))

  -- what they return after p bits
  abbrev matched : List WriteCall → ℕ → ℕ → List Step
  matched calls len p = read_sequence (reads calls len) p (words calls len ++ more)

  abbrev IsBack : List WriteCall → ℕ → ℕ → Type 0
  IsBack calls len p =
      (sequence_answers (matched calls len p) ≡ answers_of (accepted_calls o calls len))
      × (place_behind p (matched calls len p) ≡ p + length (words calls len))

  -- one call more first, whatever its decoder
  one_more : (call : WriteCall) (calls : List WriteCall) (len p : ℕ) (r : Result (List Bool) Error) → IsCall call
      → p % 8 ≡ len % 8 → write_encoder o call len ≡ r
      → IsBack calls (len + length (accepted_bits r)) (p + length (accepted_bits r)) → IsBack (call ∷ calls) len p
  one_more call calls len p (Ok w) h same e others =
      let e1 = read_decoder o (matching_read call) in
      let a = answer_of call in
      let rest = words calls (len + length w) in
      let es = reads calls (len + length w) in
      let prefix = (call-found o call len p w h same e).takes (rest ++ more) in
      let step = run-step e1 es p (length w) (w ++ (rest ++ more)) a prefix in
      let behind : drop (length w) (w ++ (rest ++ more)) ≡ rest ++ more = drop-append_seam w (rest ++ more) in
      let run : read_sequence (e1 ∷ es) p ((w ++ rest) ++ more)
      ≡ (Ok a, p + length w) ∷ matched calls (len + length w) (p + length w) =
      ap (read_sequence (e1 ∷ es) p) (append_assoc w rest more) ∙ step
      ∙ ap (λ (b : List Bool). (Ok a, p + length w) ∷ read_sequence es (p + length w) b) behind in
      rw e (
        ap sequence_answers run ∙ ap (λ (l : Places). Some (Ok a) ∷ l) others.0,
        ap (place_behind p) run ∙ others.1 ∙ omega (arith, length-append w rest),
      )
  one_more call calls len p (Err d) h same e others =
      rw e (subst (λ (q : ℕ). IsBack calls (len + 0) q) (add-zero p) others)

  all_back : (calls : List WriteCall) (len p : ℕ) → AllByRecursion IsCall calls → p % 8 ≡ len % 8 → IsBack calls len p
  all_back [] len p h same = (refl, sym (add-zero p))
  all_back (call ∷ calls) len p h same =
      let k = length (accepted_bits (write_encoder o call len)) in
      one_more call calls len p (write_encoder o call len) h.0 same refl
      (all_back calls (len + k) (p + k) h.1 (omega arith))

  pub answers_back : (calls : List WriteCall) (len p : ℕ) → All IsCall calls → p % 8 ≡ len % 8
      → sequence_answers (read_sequence (read_decoders o (matching_reads (accepted_calls o calls len))) p
      (write_sequence (write_encoders None o calls) len ++ more)) ≡ answers_of (accepted_calls o calls len)
  answers_back calls len p h same = (all_back calls len p (recursion_from_All IsCall calls h) same).0

  pub place_back : (calls : List WriteCall) (len p : ℕ) → All IsCall calls → p % 8 ≡ len % 8
      → place_behind p (read_sequence (read_decoders o (matching_reads (accepted_calls o calls len))) p
      (write_sequence (write_encoders None o calls) len ++ more)) ≡ p + length (write_sequence (write_encoders None o calls) len)
  place_back calls len p h same = (all_back calls len p (recursion_from_All IsCall calls h) same).1

-- ---- what a reader returns

heads : {A : Type 0} (x y : A) (xs ys : List A) → x ∷ xs ≡ y ∷ ys → x ≡ y
heads x y xs ys h = cc

tails : {A : Type 0} (x y : A) (xs ys : List A) → x ∷ xs ≡ y ∷ ys → xs ≡ ys
tails x y xs ys h = cc

sizes : (calls : List WriteCall) (reads : List ReadCall) → matching_reads calls ≡ reads → length calls ≡ length reads
sizes calls reads h = sym (length-map calls matching_read) ∙ ap length h

nothing : (before : List WriteCall) (call : WriteCall) (behind : List WriteCall) → [] ≡ before ++ call ∷ behind → ⊥
nothing [] call behind h = cc
nothing (b ∷ before) call behind h = cc

none_left : (others : List Step) (call : WriteCall) (calls : List WriteCall) → others ≡ []
    → sequence_answers others ≡ answers_of (call ∷ calls) → ⊥
none_left [] call calls is h = cc
none_left (step ∷ others) call calls is h = cc

-- no value that was written is an error
no_error : (first : List Step) (x : Error) (place : ℕ) (others : List Step) (calls : List WriteCall)
    → sequence_answers (first ++ (Err x, place) ∷ others) ≡ answers_of calls → ⊥
no_error [] x place others [] h = cc
no_error [] x place others (c ∷ calls) h = cc
no_error (step ∷ first) x place others [] h = cc
no_error (step ∷ first) x place others (c ∷ calls) h = no_error first x place others calls (tails _ _ _ _ h)

-- calls, cut where their matching reads are
record Cut (calls : List WriteCall) (before : List ReadCall) (call : ReadCall) (behind : List ReadCall) : Type 0 where
  first : List WriteCall
  one : WriteCall
  last : List WriteCall
  parts : calls ≡ first ++ one ∷ last
  before_is : matching_reads first ≡ before
  call_is : matching_read one ≡ call
  behind_is : matching_reads last ≡ behind

cut : (calls : List WriteCall) (before : List ReadCall) (call : ReadCall) (behind : List ReadCall)
    → matching_reads calls ≡ before ++ call ∷ behind → Cut calls before call behind
cut [] [] call behind h = absurd cc
cut [] (b ∷ before) call behind h = absurd cc
cut (c ∷ calls) [] call behind h = record {
  first = [];
  one = c;
  last = calls;
  parts = refl;
  before_is = refl;
  call_is = heads _ _ _ _ h;
  behind_is = tails _ _ _ _ h;
}
cut (c ∷ calls) (b ∷ before) call behind h =
    let k = cut calls before call behind (tails _ _ _ _ h) in
    record {
      first = c ∷ k.first;
      one = k.one;
      last = k.last;
      parts = ap (λ (l : List WriteCall). c ∷ l) k.parts;
      before_is = ap₂ (λ (x : ReadCall) (l : List ReadCall). x ∷ l) (heads _ _ _ _ h) k.before_is;
      call_is = k.call_is;
      behind_is = k.behind_is;
    }

-- the results up to a call, and those after
split_answers : (first others : List Step) (before behind : List WriteCall) → length before ≡ length first
    → sequence_answers (first ++ others) ≡ answers_of (before ++ behind)
    → (sequence_answers first ≡ answers_of before) × (sequence_answers others ≡ answers_of behind)
split_answers [] others [] behind size h = (refl, h)
split_answers [] others (c ∷ before) behind size h = absurd (omega (arith, size))
split_answers (step ∷ first) others [] behind size h = absurd (omega (arith, size))
split_answers (step ∷ first) others (c ∷ before) behind size h =
    let k = split_answers first others before behind (omega (arith, size)) (tails _ _ _ _ h) in
    (ap₂ (λ (x : Option (Result Answer Error)) (l : Places). x ∷ l) (heads _ _ _ _ h) k.0, k.1)

module _ {R : Type 0} (K : BitSource R) (calls : List WriteCall) (words bits : List Bool) (old : R) (answers : Places)
    (new : R) (run : List Step)
    (is_run : read_sequence (read_decoders K.order (matching_reads calls)) (K.state old).taken bits ≡ run)
    (all : sequence_answers run ≡ answers_of calls) where
  -- the results before a call, and those from it on
  parted : (before : List ReadCall) (call : ReadCall) (behind : List ReadCall) (first others : List Step)
      → (c : Cut calls before call behind) → length before ≡ length first → run ≡ first ++ others
      → (sequence_answers first ≡ answers_of c.first) × (sequence_answers others ≡ answers_of (c.one ∷ c.last))
  parted before call behind first others c size is =
      split_answers first others c.first (c.one ∷ c.last) (sizes c.first before c.before_is ∙ size)
      (sym (ap sequence_answers is) ∙ all ∙ ap answers_of c.parts)

  -- what is returned up to a call that returns this error, and after it
  stopped : (x : Error) (before : List ReadCall) (call : ReadCall) (behind : List ReadCall) (first : List Step)
      → (c : Cut calls before call behind) → sequence_answers first ≡ answers_of c.first
      → answers ≡ sequence_answers first ++ Some (Err x) ∷ failed_answers K.order behind
      → answers ≡ answers_of c.first ++ Some (Err x) ∷ failed_answers K.order (matching_reads c.last)
  stopped x before call behind first c h same =
      same ∙ ap₂ (λ (u : Places) (l : List ReadCall). u ++ Some (Err x) ∷ failed_answers K.order l) h (sym c.behind_is)

  -- a read sequence that returns what was written
  back_from_run : place_behind (K.state old).taken run ≡ (K.state old).taken + length words
      → ReadsSequence K (matching_reads calls) bits old answers new → ReadsBack K calls words old answers new
  back_from_run place (lists.had_failed f same state) = back.had_failed f same state
  back_from_run place (lists.was_done f g size same taken) =
      back.was_done f g (same ∙ ap sequence_answers is_run ∙ all)
      (taken ∙ ap (place_behind (K.state old).taken) is_run ∙ place)
  back_from_run place (lists.too_long before behind first at f g parts size is same taken) =
      absurd (no_error first RunTooLong at [] calls (sym (ap sequence_answers is) ∙ ap sequence_answers is_run ∙ all))
  back_from_run place (lists.was_refused before call behind first others x f g parts size is may more ended same) =
      let c = cut calls before call behind parts in
      let k = parted before call behind first others c size (sym is_run ∙ is) in
      back.was_refused c.first c.one c.last x f g c.parts may more
      (λ end. none_left others c.one c.last (ended end) k.1)
      (stopped (read_refusal_of x.kind) before call behind first c k.0 same)
  back_from_run place (lists.memory_refused before call behind first others f g parts size grows is more same) =
      let c = cut calls before call behind parts in
      let k = parted before call behind first others c size (sym is_run ∙ is) in
      back.memory_refused c.first c.one c.last f g c.parts (ap asks_memory c.call_is ∙ grows) more
      (stopped OutOfMemory before call behind first c k.0 same)

module _ {R : Type 0} (K : BitSource R) (written : List WriteCall) (len : ℕ) (calls : List ReadCall) (old : R)
    (answers : Places) (new : R) where
  -- what read calls return that are before written encodings
  pub reads_back : All IsCall written → StandsBefore K written len old
      → calls ≡ matching_reads (accepted_calls K.order written len)
      → ((bytes : List ℕ) → (K.state old).bytes ≡ Some bytes
      → ReadsSequence K calls ((K.state old).queue ++ bits K.order bytes) old answers new)
      → ReadsBack K (accepted_calls K.order written len) (write_sequence (write_encoders None K.order written) len)
      old answers new
  reads_back typed s same run =
      let o = K.order in
      let p = (K.state old).taken in
      let kept = accepted_calls o written len in
      let words = write_sequence (write_encoders None o written) len in
      let all : List Bool = words ++ s.more in
      let is : ReadsSequence K (matching_reads kept) all old answers new =
      subst (λ (b : List Bool). ReadsSequence K (matching_reads kept) b old answers new) s.begins
      (subst (λ (l : List ReadCall). ReadsSequence K l ((K.state old).queue ++ bits o s.bytes) old answers new) same
      (run s.bytes s.known)) in
      back_from_run K kept words all old answers new (read_sequence (read_decoders o (matching_reads kept)) p all) refl
      (answers_back o s.more written len p typed s.place) (place_back o s.more written len p typed s.place) is

-- a call that may ask for memory is not one of those that ask for none
asks_none : (before : List WriteCall) (call : WriteCall) (behind calls : List WriteCall)
    → calls ≡ before ++ call ∷ behind → AsksNoMemory (matching_reads calls)
    → asks_memory (matching_read call) ≡ true → ⊥
asks_none before call behind [] is free asks = nothing before call behind is
asks_none [] call behind (c ∷ calls) is free asks =
    let same : c ≡ call = heads _ _ _ _ is in
    let none = (free_call (matching_read c) (matching_reads calls) free).0 in
    let some : asks_memory (matching_read c) ≡ true = ap (λ x. asks_memory (matching_read x)) same ∙ asks in
    cc
asks_none (b ∷ before) call behind (c ∷ calls) is free asks =
    let others = (free_call (matching_read c) (matching_reads calls) free).1 in
    asks_none before call behind calls (tails _ _ _ _ is) others asks

module _ {R : Type 0} (K : BitSource R) (kept : List WriteCall) (words : List Bool) (old : R) (answers : Places)
    (new : R) where
  -- a request that fails only at the end of input does not fail here
  pub sure_back : TrueEnds K.may → AsksNoMemory (matching_reads kept) → (K.state old).failed ≡ false
      → ReadsBack K kept words old answers new → answers ≡ answers_of kept
  sure_back ends free fine (back.had_failed f same state) = cc
  sure_back ends free fine (back.was_done f g same taken) = same
  sure_back ends free fine (back.was_refused before call behind x f g parts may more ended same) =
      absurd (ended (ends x may))
  sure_back ends free fine (back.memory_refused before call behind f g parts asks more same) =
      absurd (asks_none before call behind kept parts free asks)
