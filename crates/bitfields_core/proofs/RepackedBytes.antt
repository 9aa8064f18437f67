-- Repacking from the first byte of a stream on.
use Rattle.std.specs.Prelude.{IfOk, ◌*◌, ◌%◌, Bool, true, false, if◌then◌else◌}
use Rattle.std.specs.declared.io.ErrorKind.{ErrorKind}
use Rattle.std.proofs.Common.{◌≡◌, ◌⊎◌, ◌==◌, ℕ, ◌+◌, ◌<◌, List, [], ◌∷◌, ◌++◌, length, Option, Some, Result, Ok, Err, refl, sym, ap, ◌∙◌, subst, arith, inl, inr, append-nil, length-append}
use Rattle.std.proofs.lemmas.List.{nil_from_length}
use Rattle.bitstream_io.specs.Error.{Error}
use Rattle.bitstream_io.specs.Error.TheVariants as errors
use Rattle.bitstream_io.specs.Fault.{refusal_of}
use Rattle.bitstream_io.specs.Gather.{result_map}
use Rattle.bitstream_io.specs.Refusal.{Refusal, IsTrueEnd, MayRefuseRead, MayRefuseWrite, TrueEnds, refused_read}
use Rattle.bitstream_io.specs.Streams.{InputStream, OutputStream}
use Rattle.bitstream_io.specs.Word.{Order, bits}
use Rattle.bitstream_io.proofs.ReadsLemmas.{Consumes-known}
use Rattle.bitstream_io.proofs.WordLemmas.{bits-append}
use Rattle.bitfields_core.specs.declared.fault.Fault.{Fault}
use Rattle.bitfields_core.specs.declared.fault.Reason.TheVariants.{OutOfMemory, StreamFault}
use Rattle.bitfields_core.specs.declared.field.Field.{Field}
use Rattle.bitfields_core.specs.declared.field_value.FieldValue.{FieldValue}
use Rattle.bitfields_core.specs.Fault.{fault}
use Rattle.bitfields_core.specs.Layout.{IsLayout}
use Rattle.bitfields_core.specs.Packing.{PackingRefused, PacksValues, write_reason}
use Rattle.bitfields_core.specs.Repacking.{exact_read, unpack_aligned, without_field, without_last_field, unnamed_result, with_alignment, AreRepacked, IsNoEnd, IsRepacked, PackedFault, ReadPacked, ReadsPackedBytes, ReadToLast, refused_output, Repacks}
use Rattle.bitfields_core.specs.Unpacking.{Unpacks, Stops, says_by}
use Rattle.bitfields_core.specs.Value.{Fit}
use Rattle.bitfields_core.proofs.ExactRuns.{ends_at_a_byte, named, same_bytes, values_fit}
use Rattle.bitfields_core.proofs.UnpackedBytes.{all_say_fault, FieldsKnown}

-- packed fields, or their fault, by the bytes of a stream
abbrev pub PackedKnown : (Refusal → Type 0) → Order → List Field → Option (List ℕ) → Result (List FieldValue) Fault
    → Option (List ℕ) → Type 0
PackedKnown may o fields old (Ok vs) new = ReadPacked o fields old vs new
PackedKnown may o fields old (Err f) new = PackedFault may o fields old f new

-- what a new reader's calls of packed fields come to
pub packed_known : (may : Refusal → Type 0) (o : Order) (fields : List Field) (known after : Option (List ℕ))
    (answer result : Result (List FieldValue) Fault)
    → FieldsKnown exact_read may o (with_alignment fields) known answer after
    → result ≡ unnamed_result (length fields) answer
    → PackedKnown may o fields known result after
packed_known may o fields known after (Ok vs) result h is =
    let whole : h.len % 8 ≡ 0 = ends_at_a_byte o 1 fields 0 (bits o h.gone ++ []) vs h.len (h.says []) in
    let size : h.len ≡ 8 * length h.gone = omega (arith, whole, h.taken.least.0, h.taken.least.1) in
    subst (λ (r : Result (List FieldValue) Fault). PackedKnown may o fields known r
    after) (sym is) (record {
      gone = h.gone;
      loses = h.taken.loses;
      says = λ more. ap (without_last_field (length fields)) (h.says more) ∙ ap (Unpacks vs) size;
    })
packed_known may o fields known after (Err g) result h is =
    subst (λ (r : Result (List FieldValue) Fault). PackedKnown may o fields known r
    after) (sym is) (g, h, refl)

-- the same of a stream
pub packed_stream : {R : Type 0} (I : InputStream R) (o : Order) (fields : List Field) (old new : R) (r : Result (List FieldValue) Fault)
    → PackedKnown (MayRefuseRead I) o fields (I.remaining old) r (I.remaining new)
    → ReadsPackedBytes I o fields old r new
packed_stream I o fields old new (Ok vs) h = h
packed_stream I o fields old new (Err f) h = h

-- values that were read fit
pub packed_fits : {R V : Type 0} (I : InputStream R) (o : Order) (fields : List Field) (old new : R) (view : V → List FieldValue) (r : Result V Fault) → IsLayout fields
    → ReadsPackedBytes I o fields old (result_map view r) new → IfOk r (λ v. Fit fields (view v))
packed_fits I o fields old new view (Ok v) layout h =
    values_fit o fields (bits o h.gone ++ []) (view v) (8 * length h.gone) layout
    (named (length fields) (says_by exact_read o 1 (with_alignment fields) 0 (bits o h.gone ++ [])) (view v)
    (8 * length h.gone) (h.says []))
packed_fits I o fields old new view (Err f) layout h = tt

-- values that were read to the input's end were packed, or the output refused a request
pub packed_again : {R W : Type 0} (I : InputStream R) (O : OutputStream W) (o : Order) (fields : List Field) (input input_after : R)
    (output output_after : W) (vs : List FieldValue) (r : Result (Unit {0}) Fault) → IsLayout fields
    → ReadToLast I o fields input vs input_after
    → PacksValues O o fields vs output r output_after
    → Repacks I O o fields input output r input_after output_after
packed_again I O o fields input input_after output output_after vs (Ok done) layout read packs =
    let xs = read.reads.gone in
    let says : unpack_aligned o fields (bits o xs) ≡ Unpacks vs (8 * length xs) =
    ap (unpack_aligned o fields) (sym (append-nil (bits o xs))) ∙ read.reads.says [] in
    record {
      vs = vs;
      read = read;
      packs = packs;
      same = λ one. packs.says ∙ sym (same_bytes o fields xs vs layout one says);
    }
packed_again I O o fields input input_after output output_after vs (Err f) layout read refused =
    refused_output vs read refused

-- a fault keeps its reason
kept : (b : Bool) (f : Fault) → (if b then fault 0 f.reason else f).reason ≡ f.reason
kept true f = refl
kept false f = refl

unnamed-reason : (n : ℕ) (f : Fault) → (without_field n f).reason ≡ f.reason
unnamed-reason n f = kept (f.field == n + 1) f

-- the reasons of an output
write_reasons : (e : Error) → (write_reason e ≡ OutOfMemory) ⊎ (write_reason e ≡ StreamFault)
write_reasons errors.OutOfMemory = inl refl
write_reasons e = inr refl

-- an output that refused a request says nothing of the input
pub output_refused : (may : Refusal → Type 0) (o p : Order) (fields : List Field) (vs : List FieldValue)
    (old : Option (List ℕ)) (f : Fault) (new : Option (List ℕ)) (xs : List ℕ) → PackingRefused may o fields vs old f new
    → IsRepacked p fields xs (Err f)
output_refused may o p fields vs old f new xs h = elim (write_reasons (refusal_of h.refusal.kind)) [
  | inl memory ↦ inl (inl (ap (λ (g : Fault). g.reason) h.reason ∙ memory))
  | inr stream ↦ inl (inr (ap (λ (g : Fault). g.reason) h.reason ∙ stream))
]

module _ {R : Type 0} (I : InputStream R) (ends : TrueEnds (MayRefuseRead I)) (o : Order) (fields : List Field) {input : R} {xs : List ℕ}
    (told : I.remaining input ≡ Some xs) where
  -- a refusal is a true end
  true_end : {wanted : ℕ} {kind : ErrorKind} {s t : R} → I.refuses s wanted kind t
      → IsTrueEnd (refused_read I s wanted kind t)
  true_end {wanted = wanted} {kind = kind} {s = s} {t = t} h =
      ends _ (record { old = s; new = t; capacity = refl; before = refl; after = refl; refused = h })

  -- what all bytes say, by those that were read
  say : {vs : List FieldValue} {behind : Option (List ℕ)} (h : ReadPacked o fields (I.remaining input) vs behind)
      (rest : List ℕ) → xs ≡ h.gone ++ rest → unpack_aligned o fields (bits o xs) ≡ Unpacks vs (8 * length h.gone)
  say h rest is =
      ap (λ (bytes : List ℕ). unpack_aligned o fields (bits o bytes)) is
      ∙ ap (unpack_aligned o fields) (bits-append o h.gone rest) ∙ h.says (bits o rest)

  -- the fields were not read
  pub not_read : {f : Fault} {after : Option (List ℕ)}
      → PackedFault (MayRefuseRead I) o fields (I.remaining input) f after → IsRepacked o fields xs (Err f)
  not_read {after = after} (g, h, is) =
      let why = all_say_fault exact_read o (with_alignment fields) (I.remaining input) after xs told
      (MayRefuseRead I) g ends h in
      elim why [
        | inl memory ↦ inl (inl (ap (λ (f : Fault). f.reason) is ∙ unnamed-reason (length fields) g ∙ memory))
        | inr says ↦ inr (inl (ap (without_last_field (length fields)) says ∙ ap Stops (sym is)))
      ]

  -- the input did not end behind them
  pub not_ended : {vs : List FieldValue} {behind : R} {f : Fault} {after : R}
      → ReadPacked o fields (I.remaining input) vs (I.remaining behind) → IsNoEnd I behind f after
      → IsRepacked o fields xs (Err f)
  not_ended {vs = vs} {behind = behind} {after = after} h (inl (byte, loses, is)) =
      let first = Consumes-known (I.remaining input) (I.remaining behind) h.gone xs h.loses told in
      let second = Consumes-known (I.remaining behind) (I.remaining after) (byte ∷ []) first.0 loses first.1 in
      let few : 8 * length h.gone < 8 * length xs =
      omega (
        arith,
        ap length first.2,
        length-append h.gone first.0,
        ap length second.2,
        length-append (byte ∷ []) second.0,
      )
      in
      inr (inr (is, vs, 8 * length h.gone, few, say h first.0 first.2))
  not_ended h (inr (kind, refused, other, is)) = absurd (other (true_end refused).kind)

  -- the input ended behind them
  pub ended : {vs : List FieldValue} {after : R} → ReadToLast I o fields input vs after
      → AreRepacked o fields xs
  ended {vs = vs} h =
      let first = Consumes-known (I.remaining input) (I.remaining h.behind) h.reads.gone xs h.reads.loses told in
      let end = true_end h.ended in
      let same : Some first.0 ≡ Some end.left = sym first.1 ∙ end.told in
      let none : first.0 ≡ [] = nil_from_length first.0 (let e : first.0 ≡ end.left = cc same in
      omega (arith, end.few, ap length e)) in
      let whole : xs ≡ h.reads.gone = first.2 ∙ ap (λ (rest : List ℕ). h.reads.gone ++ rest) none
      ∙ append-nil h.reads.gone in
      (vs, say h.reads first.0 first.2 ∙ ap (λ (bytes : List ℕ). Unpacks vs (8 * length bytes)) (sym whole))

  -- the output took the packed bytes, or refused a request
  pub was_ended : {W : Type 0} (O : OutputStream W) {vs : List FieldValue}
      {after : R} (output output_after : W) (r : Result (Unit {0}) Fault)
      → ReadToLast I o fields input vs after → PacksValues O o fields vs output r output_after
      → IsRepacked o fields xs r
  was_ended O output output_after (Ok done) read packs = ended read
  was_ended O {vs = vs} output output_after (Err f) read refused =
      output_refused (MayRefuseWrite O) o o fields vs (O.contents output) f (O.contents output_after) xs refused
