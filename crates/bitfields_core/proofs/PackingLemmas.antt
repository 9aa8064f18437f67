-- Packing, call by call.
use Rattle.std.specs.Prelude.{false, Bool, IsErr, IsErrAnd, ◌*◌, ◌%◌}
use Rattle.std.specs.List.{AllByRecursion}
use Rattle.bitstream_io.specs.Reference.{Reference}
use Rattle.std.specs.Io.KnownBytes.{Appends}
use Rattle.std.proofs.Common.{◌≡◌, ℕ, ◌+◌, ◌<◌, ◌≤◌, List, [], ◌∷◌, ◌++◌, length, drop, get_or, Option, None, Result, Ok, Err, refl, sym, ap, subst, ◌∙◌, arith, inl, inr, ◌⊎◌, add-one, drop-cons, append-nil, append_assoc, length-append}
use Rattle.std.proofs.lemmas.List.{drop_all, length-replicate}
use Rattle.std.proofs.lemmas.List.Elements.{recursion_from_All}
use Rattle.bitstream_io.specs.Word.{Order, word, bits}
use Rattle.bitstream_io.proofs.WordLemmas.{length-word, length-bits}
use Rattle.bitstream_io.specs.Error.{Error}
use Rattle.bitstream_io.specs.Codec.{Encoder}
use Rattle.bitstream_io.specs.Refusal.{Refusal}
use Rattle.bitstream_io.specs.Streams.{OutputStream}
use Rattle.bitstream_io.proofs.TakeLemmas.{word-none}
use Rattle.bitstream_io.specs.Alignment.{to_boundary}
use Rattle.bitstream_io.specs.Sequence.{accepted_bits, refusal_if_any, write_sequence, write_refusals}
use Rattle.bitstream_io.specs.Sink.{Sink, IsWithin, Appended, WriteRefused, Writes, WritesAll, had_failed, was_rejected, past_limit, was_refused, was_done}
use Rattle.bitstream_io.specs.WriteTable.{align}
use Rattle.bitstream_io.specs.Carries.{WriterState, Carries, Fills}
use Rattle.bitstream_io.specs.Writer.{new_writer_state}
use Rattle.bitstream_io.proofs.SinkLemmas.{not_past_limit, within_less}
use Rattle.bitstream_io.proofs.SinkParts.{WriteRefused-behind, WriteRefused-longer}
use Rattle.bitstream_io.proofs.WriteParts.{all_none, all_err, all_more}
use Rattle.bitfields_core.specs.declared.fault.Fault.{Fault}
use Rattle.bitfields_core.specs.declared.fault.Reason.TheVariants.{OutOfMemory}
use Rattle.bitfields_core.specs.declared.field.Field.{Field}
use Rattle.bitfields_core.specs.declared.field_value.FieldValue.{FieldValue}
use Rattle.bitfields_core.specs.Fault.{fault}
use Rattle.bitfields_core.specs.Layout.{IsField, IsLayout}
use Rattle.bitfields_core.specs.Packing.{WritesBits, PackedBytes, PackingRefused, Packs, PacksValues, write_reason, field_write, field_writes, packed_bits}
use Rattle.bitfields_core.specs.Value.{value_count, FitsField, Fit}
use Rattle.bitfields_core.proofs.FieldCalls.{refusals-none}
use Rattle.bitstream_io.proofs.SequenceLemmas.{write_sequence-append}

-- ---- a list of accepted calls, to a sink that has room

-- a call whose word is x adds it to a sink that has not failed and has room for it, or a request is refused
WritesBits-from : {S : Type 0} (K : Sink S) (encoder : Encoder) (x : List Bool) (old : S)
    (r : Result (Unit {0}) Error) (new : S) → K.failed old ≡ false → IsWithin K.limit (K.len old + length x)
    → encoder (K.len old) ≡ Ok x → Writes K encoder old r new → WritesBits K x old r new
WritesBits-from K encoder x old r new sound room is (had_failed p q k) = absurd (cc)
WritesBits-from K encoder x old r new sound room is (was_rejected error p q e k) = absurd (cc)
WritesBits-from K encoder x old r new sound room is (past_limit w p q beyond e k) =
    let same : w ≡ x = cc in
    absurd (not_past_limit K.limit _ _ room (omega (arith, ap length same)) beyond)
WritesBits-from K encoder x old r new sound room is (was_refused w error p q within e f) =
    let same : w ≡ x = cc in
    subst (λ (a : Result (Unit {0}) Error). WritesBits K x old a new) (sym e)
    (subst (λ (y : List Bool). WriteRefused K old y error new) same f)
WritesBits-from K encoder x old r new sound room is (was_done w done p q within e a) =
    let same : w ≡ x = cc in
    subst (λ (b : Result (Unit {0}) Error). WritesBits K x old b new) (sym e)
    (subst (λ (y : List Bool). Appended K old y new) same a)

Appended-nil : {S : Type 0} (K : Sink S) (s : S) → K.failed s ≡ false → Appended K s [] s
Appended-nil K s sound = record { grown = K.appends_nil s; sound = sound; refusals = refl; references = refl }

Appended-trans : {S : Type 0} (K : Sink S) (s t z : S) (x y : List Bool) → Appended K s x t → Appended K t y z
    → Appended K s (x ++ y) z
Appended-trans K s t z x y h k = record {
  grown = K.appends_trans s t z x y h.grown k.grown;
  sound = k.sound;
  refusals = k.refusals ∙ h.refusals;
  references = k.references ∙ h.references;
}

-- what follows bits that were added
WritesBits-later : {S : Type 0} (K : Sink S) (x y : List Bool) (old mid : S) (r : Result (Unit {0}) Error) (new : S)
    → Appended K old x mid → WritesBits K y mid r new → WritesBits K (x ++ y) old r new
WritesBits-later K x y old mid (Ok done) new h k = Appended-trans K old mid new x y h k
WritesBits-later K x y old mid (Err e) new h k = WriteRefused-behind K old mid new e x y h k

-- a refusal of the first bits is one of all
WritesBits-first : {S : Type 0} (K : Sink S) (x y : List Bool) (old : S) (r : Result (Unit {0}) Error) (new : S)
    → IsErr r → WritesBits K x old r new → WritesBits K (x ++ y) old r new
WritesBits-first K x y old (Ok done) new h k = absurd (cc)
WritesBits-first K x y old (Err e) new h k = WriteRefused-longer K old new e x y k

accepted-word : (r : Result (List Bool) Error) → refusal_if_any r ≡ None → r ≡ Ok (accepted_bits r)
accepted-word (Ok w) h = refl
accepted-word (Err e) h = absurd (cc)

-- calls that are all accepted add their write sequence
pub WritesBits-all : {S : Type 0} (K : Sink S) (es : List Encoder) (old : S) (r : Result (Unit {0}) Error) (new : S)
    → K.failed old ≡ false → IsWithin K.limit (K.len old + length (write_sequence es (K.len old)))
    → AllByRecursion (λ e. e ≡ None) (write_refusals es (K.len old)) → WritesAll K es old r new
    → WritesBits K (write_sequence es (K.len old)) old r new
unfolding WritesAll
WritesBits-all K [] old r new sound room fine w =
    subst (λ (s : Result (Unit {0}) Error). WritesBits K [] old s new) (sym w.0)
    (subst (λ (z : _). Appended K old [] z) (sym w.1) (Appended-nil K old sound))
WritesBits-all K (e ∷ es) old r new sound room fine (inl h) =
    let x = accepted_bits (e (K.len old)) in
    let rest = write_sequence es (K.len old + length x) in
    let near = within_less K.limit (K.len old + length x) _ (omega (arith, length-append x rest)) room in
    let here = WritesBits-from K e x old r new sound near (accepted-word (e (K.len old)) fine.0) h.1 in
    WritesBits-first K x rest old r new h.0 here
WritesBits-all K (e ∷ es) old r new sound room fine (inr (mid, first, others)) =
    let x = accepted_bits (e (K.len old)) in
    let rest = write_sequence es (K.len old + length x) in
    let near = within_less K.limit (K.len old + length x) _ (omega (arith, length-append x rest)) room in
    let here = WritesBits-from K e x old (Ok tt) mid sound near (accepted-word (e (K.len old)) fine.0) first in
    let place : K.len mid ≡ K.len old + length x = K.appends_len old mid x here.grown in
    let far = within_less K.limit (K.len old + length x + length rest) _ (omega (arith, length-append x rest)) room in
    let later = WritesBits-all K es mid r new here.sound
    (subst (λ (n : ℕ). IsWithin K.limit (n + length (write_sequence es n))) (sym place) far)
    (subst (λ (n : ℕ). AllByRecursion (λ e. e ≡ None) (write_refusals es n)) (sym place) fine.1) others in
    WritesBits-later K x rest old mid r new here
    (subst (λ (n : ℕ). WritesBits K (write_sequence es n) mid r new) place later)

-- values that fit are packed
pub WritesBits-packed : {S : Type 0} (K : Sink S) (fields : List Field) (vs : List FieldValue) (old : S)
    (r : Result (Unit {0}) Error) (new : S) → IsLayout fields → Fit fields vs
    → WritesAll K (field_writes K.order fields vs ++ align ∷ []) old r new → K.failed old ≡ false → K.limit ≡ None
    → WritesBits K (packed_bits K.order fields vs (K.len old)) old r new
WritesBits-packed K fields vs old r new layout fit w sound unlimited =
    let each = recursion_from_All IsField fields layout.in_range in
    let room = subst (λ (m : Option ℕ). IsWithin m (K.len old + length (packed_bits K.order fields vs (K.len old))))
    (sym unlimited) tt in
    WritesBits-all K (field_writes K.order fields vs ++ align ∷ []) old r new sound room
    (refusals-none K.order fields vs (K.len old) each fit) w

-- ---- the fields' calls, one behind the other

pub result_err : {B E : Type 0} {x : E} (r : Result B E) → IsErrAnd r (λ y. y ≡ x) → r ≡ Err x
result_err (Ok b) h = absurd h
result_err (Err y) h = ap Err h

-- what is made of the calls that are left is made of them all
abbrev pub Remains : {S : Type 0} → Sink S → List Encoder → S → List Encoder → S → Type 0
Remains {S} K all old left now = (r : Result (Unit {0}) Error) (new : S) → WritesAll K left now r new
    → WritesAll K all old r new

-- the calls of fields, and the first of them
writes_first : (o : Order) (fields : List Field) (i : ℕ) (d : Field) (vs : List FieldValue) → i < length fields
    → field_writes o (drop i fields) vs ≡ field_write o (get_or fields i d) vs ∷ field_writes o (drop (i + 1) fields)
    (drop (value_count (get_or fields i d)) vs)
writes_first o fields i d vs h =
    let cut : drop i fields ≡ get_or fields i d ∷ drop (i + 1) fields = rw add-one (drop-cons fields i d h) in
    ap (λ (fs : List Field). field_writes o fs vs) cut

-- the first fields wrote their words, and these are the values of the others
pub record Packing {S : Type 0} (K : Sink S) (fields : List Field) (vs : List FieldValue) (i : ℕ) (old : S)
    (rest : List FieldValue) (now : S) : Type 0 where
  pub fit : Fit (drop i fields) rest
  pub remains : Remains K (field_writes K.order fields vs) old (field_writes K.order (drop i fields) rest) now

pub Packing-start : {S : Type 0} (K : Sink S) (fields : List Field) (vs : List FieldValue) (s : S) → Fit fields vs
    → Packing K fields vs 0 s vs s
Packing-start K fields vs s fit = record { fit = fit; remains = λ r new h. h }

-- the first of the fields that are left fits
pub Packing-fits : {S : Type 0} (K : Sink S) (fields : List Field) (vs : List FieldValue) (i : ℕ) (d : Field)
    (old : S) (rest : List FieldValue) (now : S) → i < length fields → Packing K fields vs i old rest now
    → FitsField (get_or fields i d) rest × Fit (drop (i + 1) fields) (drop (value_count (get_or fields i d)) rest)
Packing-fits K fields vs i d old rest now h known =
    let cut : drop i fields ≡ get_or fields i d ∷ drop (i + 1) fields = rw add-one (drop-cons fields i d h) in
    subst (λ (fs : List Field). Fit fs rest) cut known.fit

pub Packing-more : {S : Type 0} (K : Sink S) (fields : List Field) (vs : List FieldValue) (i : ℕ) (d : Field)
    (old : S) (rest behind : List FieldValue) (now new : S) → i < length fields → Packing K fields vs i old rest now
    → Writes {T = Unit {0}} K (field_write K.order (get_or fields i d) rest) now (Ok tt) new → behind
    ≡ drop (value_count (get_or fields i d)) rest → Packing K fields vs (i + 1) old behind new
Packing-more {S} K fields vs i d old rest behind now new h known w is =
    let e = field_write K.order (get_or fields i d) rest in
    let more = field_writes K.order (drop (i + 1) fields) in
    record {
      fit = subst (λ (us : List FieldValue). Fit (drop (i + 1) fields) us) (sym is)
          (Packing-fits K fields vs i d old rest now h known).1;
      remains = λ r z others. known.remains r z
          (subst (λ (es : List Encoder). WritesAll K es now r z) (sym (writes_first K.order fields i d rest h))
          (all_more K e (more (drop (value_count (get_or fields i d)) rest)) now new r z w
          (subst (λ (us : List FieldValue). WritesAll K (more us) new r z) is others)));
    }

pub Packing-fault : {S : Type 0} (K : Sink S) (fields : List Field) (vs : List FieldValue) (i : ℕ) (d : Field) (old :
    S) (rest : List FieldValue) (now : S) (r : Result (Unit {0}) Error) (error : Error) (new : S) → i < length fields
    → Packing K fields vs i old rest now → r ≡ Err error
    → Writes {T = Unit {0}} K (field_write K.order (get_or fields i d) rest) now (Err error) new
    → WritesAll K (field_writes K.order fields vs) old r new
Packing-fault K fields vs i d old rest now r error new h known is w =
    known.remains r new
    (subst (λ (es : List Encoder). WritesAll K es now r new) (sym (writes_first K.order fields i d rest h))
    (all_err K (field_write K.order (get_or fields i d) rest)
    (field_writes K.order (drop (i + 1) fields) (drop (value_count (get_or fields i d)) rest)) now r error new is
    w))

pub Packing-end : {S : Type 0} (K : Sink S) (fields : List Field) (vs : List FieldValue) (i : ℕ) (old : S)
    (rest : List FieldValue) (now : S) → length fields ≤ i → Packing K fields vs i old rest now
    → WritesAll K (field_writes K.order fields vs) old (Ok tt) now
Packing-end K fields vs i old rest now end known =
    known.remains (Ok tt) now
    (subst (λ (fs : List Field). WritesAll K (field_writes K.order fs rest) now (Ok tt) now)
    (sym (drop_all i fields end)) (all_none K now))

-- ---- a new writer of a stream

length-packed : (o : Order) (fields : List Field) (vs : List FieldValue) → length (packed_bits o fields vs 0) % 8 ≡ 0
length-packed o fields vs =
    let w = write_sequence (field_writes o fields vs) 0 in
    let last = write_sequence (align ∷ []) (0 + length w) in
    let parts : length (packed_bits o fields vs 0) ≡ length w + length last =
    ap length (write_sequence-append (field_writes o fields vs) (align ∷ []) 0) ∙ length-append w last in
    let rest : length last ≡ to_boundary (0 + length w) = ap length (append-nil (accepted_bits (align (0 + length w))))
    ∙ length-replicate (to_boundary (0 + length w)) false in
    omega (arith, parts, rest)

-- the bytes of the packed values were handed on
pub PackedBytes-from : (o : Order) (fields : List Field) (vs : List FieldValue)
    (held : Option (List ℕ)) (references : List Reference) (s t : WriterState) → t.queued < 8 → s
    ≡ new_writer_state held references
    → Carries o s (packed_bits o fields vs (8 * s.port.sent + s.queued)) t → PackedBytes o fields vs held t.port.bytes
PackedBytes-from o fields vs held references s t few fresh was =
    let c : Carries o (new_writer_state held references) (packed_bits o fields vs 0) t =
    subst (λ (u : WriterState). Carries o u (packed_bits o fields vs (8 * u.port.sent + u.queued)) t) fresh was in
    let x = packed_bits o fields vs 0 in
    let whole : x ≡ bits o c.bytes ++ word o t.queued t.queue = ap (λ (u : List Bool). u ++ x) (sym (word-none o 0))
    ∙ c.word in
    let rest : t.queued ≡ 0 = omega (
      arith,
      few,
      length-packed o fields vs,
      ap length whole,
      length-append (bits o c.bytes) (word o t.queued t.queue),
      length-bits o c.bytes,
      length-word o t.queued t.queue,
    )
    in
    record {
      bytes = c.bytes;
      grows = c.grows;
      says = sym (whole ∙ ap (λ (u : List Bool). bits o c.bytes ++ u) (ap (λ (n : ℕ). word o n t.queue) rest
          ∙ word-none o t.queue) ∙ append-nil (bits o c.bytes));
    }

-- ---- refusals

-- an input whose values were refused is answered so, and the stream is as it was
pub Packs-refused : {W : Type 0} (O : OutputStream W) (o : Order) (fields : List Field) (values : Result (List FieldValue) Fault) (output : W) (r : Result (Unit {0}) Fault) (f : Fault)
    → IsErrAnd r (λ e. e ≡ f) → (f ≡ fault 0 OutOfMemory) ⊎ (values ≡ Err f)
    → Packs O o fields values output r output
Packs-refused O o fields values output (Ok done) f h why = absurd h
Packs-refused O o fields (Ok vs) output (Err e) f h (inl memory) = inl (h ∙ memory, refl)
Packs-refused O o fields (Ok vs) output (Err e) f h (inr is) = absurd (cc)
Packs-refused O o fields (Err x) output (Err e) f h (inl memory) = (refl, inr (h ∙ memory))
Packs-refused O o fields (Err x) output (Err e) f h (inr is) =
    (let same : x ≡ f = cc in (refl, inl (h ∙ sym same)))

-- values that the input spells were packed, or the stream refused a request
pub Packs-values : {W : Type 0} (O : OutputStream W) (o : Order) (fields : List Field) (vs : List FieldValue) (old : W) (r : Result (Unit {0}) Fault) (new : W)
    → PacksValues O o fields vs old r new → Packs O o fields (Ok vs) old r new
Packs-values O o fields vs old (Ok done) new h = h
Packs-values O o fields vs old (Err f) new h = inr h

-- the bytes that bits filled, of a new writer
pub filled : (o : Order) (held : Option (List ℕ)) (references : List Reference) (s : WriterState) → s
    ≡ new_writer_state held references → (x : List Bool) (known : Option (List ℕ)) → Fills o s x known
    → (bytes : List ℕ) × Appends held known bytes × (rest : List Bool) × (x ≡ bits o bytes ++ rest)
filled o held references s fresh x known h =
    let f : Fills o (new_writer_state held references) x known =
    subst (λ (u : WriterState). Fills o u x known) fresh h in
    (f.bytes, f.grows, f.rest, ap (λ (u : List Bool). u ++ x) (sym (word-none o 0)) ∙ f.word)

-- a refused request of a writer, as one of its stream
pub PackingRefused-from : {S : Type 0} (K : Sink S) (may : Refusal → Type 0) (fields : List Field)
    (vs : List FieldValue) (held : Option (List ℕ)) (old new : S) (error : Error) (f : Fault)
    → ((x : Refusal) → K.may x → may x) → K.len old ≡ 0
    → ((x : List Bool) (known : Option (List ℕ)) → K.fills old x known → (bytes : List ℕ) × Appends held known bytes
    × (rest : List Bool) × (x ≡ bits K.order bytes ++ rest))
    → WriteRefused K old (packed_bits K.order fields vs (K.len old)) error new → f ≡ fault 0 (write_reason error)
    → PackingRefused may K.order fields vs held f (K.contents new)
PackingRefused-from K may fields vs held old new error f is none fills h why =
    let whole : packed_bits K.order fields vs (K.len old) ≡ packed_bits K.order fields vs 0 =
    ap (packed_bits K.order fields vs) none in
    let went = fills h.prefix h.refusal.before h.before in
    record {
      refusal = h.refusal;
      allowed = is h.refusal h.allowed;
      reason = why ∙ ap (λ (e : Error). fault 0 (write_reason e)) h.answer;
      some = omega (arith, h.full, ap length whole, none);
      bytes = went.0;
      grows = went.1;
      rest = went.2 ++ h.back;
      begins = sym whole ∙ h.parts ∙ ap (λ (u : List Bool). u ++ h.back) went.3
          ∙ append_assoc (bits K.order went.0) went.2 h.back;
      after = h.after;
    }
