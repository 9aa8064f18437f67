-- Reads over a stream whose requests fail only at the end of input.
use Rattle.std.proofs.Common.{◌≡◌, ℕ, List, ◌++◌, Some, Result, Ok, Err, refl, sym, ap, ◌∙◌, false}
use Rattle.bitstream_order.specs.Reference.{Reference}
use Rattle.bitstream_count.specs.declared.error.Error.{Error}
use Rattle.bitstream_count.specs.Codec.{Decoder}
use Rattle.bitstream_number.specs.Word.{bits}
use Rattle.bitstream_order.specs.Moving.Gather.{result_map}
use Rattle.bitstream_order.specs.Fault.{read_refusal_of}
use Rattle.bitstream_order.specs.Refusal.{TrueEnds}
use Rattle.bitstream_stream.specs.Reading.Reads.{ReaderState, BitSource, Reads, had_failed, was_done, was_refused, memory_refused, sure_answer}
use Rattle.bitstream_stream.specs.Reading.Reader.{new_reader_state}
use Rattle.bitstream_stream.proofs.Reading.ReadsLemmas.{Consumes-known, parts_left}

pub Reads-answer : {R A : Type 0} {K : BitSource R} {e : Decoder A} {r : Result A Error} {s t : R} → TrueEnds K.may
    → (xs : List ℕ) → (K.state s).failed ≡ false → (K.state s).bytes ≡ Some xs → Reads K e s r t
    → r ≡ sure_answer (e.reads (K.state s).taken ((K.state s).queue ++ bits K.order xs))
Reads-answer ends xs fine known (had_failed h) = let p = h.failed in cc
Reads-answer {K = K} {e = e} {s = s} {t = t} ends xs fine known (was_done h) =
    let lost = Consumes-known (K.state s).bytes (K.state t).bytes h.gone xs h.loses known in
    let all : (K.state s).queue ++ bits K.order xs ≡ h.word ++ (h.rest ++ bits K.order lost.0) =
    ap (λ l. (K.state s).queue ++ bits K.order l) lost.2
    ∙ parts_left K.order (K.state s).queue h.rest h.word h.gone lost.0 h.parts in
    ap sure_answer (sym (ap (λ l. e.reads (K.state s).taken l) all ∙ h.decides (h.rest ++ bits K.order lost.0)))
Reads-answer ends xs fine known (was_refused h) =
    let end = ends h.refusal h.allowed in
    h.answer ∙ ap (λ k. Err (read_refusal_of k)) end.kind ∙ ap sure_answer (sym (h.ended end xs known))
Reads-answer ends xs fine known (memory_refused g h) = cc

-- of a new reader
pub new_answer : {R A : Type 0} {K : BitSource R} {e : Decoder A} {r : Result A Error} {s t : R} → TrueEnds K.may
    → (xs : List ℕ) (references : List Reference) → K.state s ≡ new_reader_state (Some xs) references
    → Reads K e s r t
    → r ≡ sure_answer (e.reads 0 (bits K.order xs))
new_answer {K = K} {e = e} ends xs references new h =
    Reads-answer ends xs (ap (λ (x : ReaderState). x.failed) new) (ap (λ (x : ReaderState). x.bytes) new) h
    ∙ ap (λ (x : ReaderState). sure_answer (e.reads x.taken (x.queue ++ bits K.order xs))) new

pub map_same : {A E : Type 0} (r : Result A E) → result_map (λ x. x) r ≡ r
map_same (Ok a) = refl
map_same (Err e) = refl
