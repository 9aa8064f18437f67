-- What was encoded is decoded, and only memory is refused.
use Rattle.std.proofs.Common.{◌≡◌, ◌∙◌, ◌++◌, ◌+◌, ℕ, ℤ, List, [], ◌∷◌, None, Result, Ok, Err, false, length, sym, ap, inl, inr, Vec, Global}
use Rattle.std.specs.Prelude.{MatchResult}
use Rattle.std.specs.Result.{IsErrAnd}
use Rattle.bitstream_io.specs.Callers.{align, bits, result_map, write_sequence, Decoder, Encoder, Error, High, OutOfMemory, Sink}
use Rattle.bitstream_io.specs.Fault.{refusal_of}
use Rattle.bitstream_io.specs.Growing.{growing_stream}
use Rattle.bitstream_io.specs.ReadBack.{IsReadAs}
use Rattle.bitstream_io.specs.Refusal.{MayRefuseWrite, Refusal}
use Rattle.bitstream_io.specs.Sink.{Writes}
use Rattle.bitstream_io.proofs.CallerLemmas.{write_sequence-append}
use Rattle.bitstream_io.proofs.PackIntoLemmas.{accepted-run, align_error, all_error}
use Rattle.bitstream_io.proofs.WriteSteps.{sequence_appended}
use Rattle.flac_codec.specs.Errors.{becomes_flac}
use Rattle.flac_codec.specs.Subframe.{subframe_decoder, Decodes, Encodes, WritesValue}
use Rattle.flac_codec.specs.declared.error.FlacError.{FlacError}
use Rattle.flac_codec.specs.declared.error.FlacError.TheVariants.{Reader}

-- bytes that hold the words of calls, up to a whole byte
pub decodes : (ws : List Encoder) (bytes : List ℕ) (width count : ℕ) (samples : List ℤ)
    → bits High bytes ≡ write_sequence (ws ++ align ∷ []) 0 → IsReadAs ws (subframe_decoder High width count) (Ok samples)
    → Decodes bytes width count samples
decodes ws bytes width count samples is back =
    let n = length (write_sequence ws 0) in (
      n,
      ap ((subframe_decoder High width count).reads 0) (is ∙ write_sequence-append ws (align ∷ []) 0)
          ∙ back 0 0 (write_sequence (align ∷ []) (0 + n)),
    )

-- a vector refuses only memory
pub growth : {A : Type 0} (x : Refusal) → MayRefuseWrite (growing_stream {A = A}) x → refusal_of x.kind ≡ OutOfMemory
growth x may = ap refusal_of may.refused.memory

-- a value that was encoded
pub encoded : {S A E : Type 0} (K : Sink S) (e : Decoder (Result A E)) (value : A) (s t : S)
    → Encodes K e value s (Ok tt) t → WritesValue K e value s (Ok tt) t
encoded K e value s t (inl written) = written
encoded K e value s t (inr refused) = let none = refused.0 in cc

-- and the errors of a sink that refuses only memory
module _ {S : Type 0} (K : Sink S) (free : K.limit ≡ None) (memory : (x : Refusal) → K.may x → refusal_of x.kind
    ≡ OutOfMemory) (s : S) (sound : K.failed s ≡ false) {A E : Type 0} (e : Decoder (Result A E)) (value : A) where
  pub encode_error : (x : Error) (t : S) → Encodes K e value s (Err x) t → x ≡ OutOfMemory
  encode_error x t (inl written) = elim (all_error K free written.calls s x t sound written.written) [
    | inl own ↦ let none = sym own ∙ accepted-run written.calls (K.len s) (written.accepted (K.len s)) in cc
    | inr fault ↦ fault.2 ∙ memory fault.0 fault.1
  ]
  encode_error x t (inr refused) = let same = refused.0 in cc

  pub aligned_error : (m : S) (x : Error) (t : S) → Encodes K e value s (Ok tt) m
      → Writes {T = Unit {0}} K align m (Err x) t → x ≡ OutOfMemory
  aligned_error m x t h k =
      let written = encoded K e value s m h in
      let fault = align_error K free m x t (sequence_appended K written.calls s m sound written.written).sound k in
      fault.2 ∙ memory fault.0 fault.1

-- the error that a `?` returned
pub matched_error : {A E : Type 0} (r : Result A E) (x y : E) (P : A → Type 0) → IsErrAnd r (λ z. z ≡ x) → x ≡ y
    → MatchResult r P (λ z. z ≡ y)
matched_error (Ok a) x y P h same = absurd h
matched_error (Err z) x y P h same = h ∙ same

module _ (r : Result (Vec ℤ Global) FlacError) (samples : List ℤ) where
  abbrev IsRead : Type 0
  IsRead = MatchResult r (λ found. found.items ≡ samples) (λ error. error ≡ Reader OutOfMemory)

  pub samples_read : result_map (λ v. v.items) r ≡ Ok samples → IsRead
  samples_read h = elim r as (λ x. result_map (λ v. v.items) x ≡ Ok samples → MatchResult x (λ found. found.items ≡ samples)
      (λ error. error ≡ Reader OutOfMemory)) [ Ok v ↦ λ is. cc | Err e ↦ λ is. cc ] h

  pub memory_refused : IsErrAnd (result_map (λ v. v.items) r) (becomes_flac OutOfMemory) → IsRead
  memory_refused h = elim r as (λ x. IsErrAnd (result_map (λ v. v.items) x) (becomes_flac OutOfMemory)
      → MatchResult x (λ found. found.items ≡ samples) (λ error. error ≡ Reader OutOfMemory))
      [ Ok v ↦ λ no. absurd no | Err e ↦ λ is. is ] h
