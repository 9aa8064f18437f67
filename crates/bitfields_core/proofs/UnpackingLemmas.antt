-- Unpacking from a reader, field by field.
use Rattle.std.specs.Prelude.{Bool, true, false, IsSome}
use Rattle.std.proofs.Common.{◌≡◌, ℕ, ◌+◌, ◌<◌, ◌≤◌, List, [], ◌∷◌, ◌++◌, length, drop, get_or, Option, Some, None, Result, Ok, Err, refl, sym, ap, ◌∙◌, subst, inl, inr, ◌⊎◌, arith, append_assoc, add-one, drop-cons, length-append, append-nil}
use Rattle.std.proofs.KnownBytes.{Consumes-trans}
use Rattle.std.proofs.lemmas.List.{drop_all}
use Rattle.std.proofs.lemmas.List.Concat.{flat_map-append}
use Rattle.std.specs.Io.KnownBytes.{Consumes}
use Rattle.bitstream_io.specs.Word.{Order, bits}
use Rattle.bitstream_io.proofs.WordLemmas.{bits-append}
use Rattle.bitstream_io.specs.Error.{Error}
use Rattle.bitstream_io.specs.Codec.{Decoder, Done}
use Rattle.bitstream_io.specs.Fault.{read_refusal_of}
use Rattle.bitstream_io.specs.Refusal.{Refusal, IsTrueEnd}
use Rattle.bitstream_io.specs.Own.{OwnAnswer}
use Rattle.bitstream_io.specs.Reads.{ReaderState, BitSource, Reads, Took, ReadDone, ReadRefused, had_failed, was_done, was_refused, memory_refused}
use Rattle.bitstream_io.proofs.ReadsLemmas.{Took-nil, Took-trans, Took-left, took, parts_left}
use Rattle.bitfields_core.specs.declared.fault.Fault.{Fault}
use Rattle.bitfields_core.specs.declared.fault.Reason.{Reason}
use Rattle.bitfields_core.specs.declared.fault.Reason.TheVariants.{BitsEnded, OutOfMemory}
use Rattle.bitfields_core.specs.declared.field.Field.{Field}
use Rattle.bitfields_core.specs.declared.field_value.FieldValue.{FieldValue}
use Rattle.bitfields_core.specs.Fault.{fault}
use Rattle.bitfields_core.specs.Unpacking.{FieldCalls, Unpacked, Unpacks, asks_memory, Stops, says_by, values_and, TellsReason, field_read, read_reason, behind, IsReadReason, ReadsField, ReadsFields, ReadsLines}
use Rattle.bitfields_core.specs.Value.{printed_line, printed_lines, value_list}
use Rattle.bitfields_core.proofs.FieldCalls.{says-first, says-told, says-refused, says-short}

-- ---- the fields' calls, one behind the other

behind-append : (us vs : List FieldValue) (r : Result (List FieldValue) Fault) → behind us (behind vs r)
    ≡ behind (us ++ vs) r
behind-append us vs (Ok ws) = ap Ok (sym (append_assoc us vs ws))
behind-append us vs (Err f) = refl

behind-nil : (r : Result (List FieldValue) Fault) → behind [] r ≡ r
behind-nil (Ok ws) = refl
behind-nil (Err f) = refl

module _ {R : Type 0} (calls : FieldCalls) (K : BitSource R) (fields : List Field) where
  -- what is made of the calls that are left is made of them all, behind the values that were read
  abbrev pub Remaining : ℕ → R → List FieldValue → R → Type 0
  Remaining i old values now = (r : Result (List FieldValue) Fault) (new : R)
      → ReadsFields calls K (i + 1) (drop i fields) now r new → ReadsFields calls K 1 fields old (behind values r) new

  pub Remaining-start : (s : R) → Remaining 0 s [] s
  Remaining-start s r new h = subst (λ (x : Result (List FieldValue) Fault). ReadsFields calls K 1 fields s x new)
      (sym (behind-nil r)) h

  pub Remaining-end : (i : ℕ) (old now : R) (values : List FieldValue) → length fields ≤ i → Remaining i old values now
      → ReadsFields calls K 1 fields old (Ok values) now
  unfolding ReadsFields
  Remaining-end i old now values end known =
      let none : ReadsFields calls K (i + 1) [] now (Ok []) now = (refl, refl) in
      subst (λ (vs : List FieldValue). ReadsFields calls K 1 fields old (Ok vs) now) (append-nil values)
      (known (Ok []) now (subst (λ (fs : List Field). ReadsFields calls K (i + 1) fs now (Ok []) now)
      (sym (drop_all i fields end)) none))

  module _ (i : ℕ) {f : Field} (old now : R) (values : List FieldValue) (cut : drop i fields ≡ f ∷ drop (i + 1) fields)
      (known : Remaining i old values now) where
    -- the calls that are left, by the next of them
    next : (r : Result (List FieldValue) Fault) (new : R)
        → ReadsFields calls K (i + 1) (f ∷ drop (i + 1) fields) now r new
        → ReadsFields calls K 1 fields old (behind values r) new
    next r new h =
        known r new (subst (λ (fs : List Field). ReadsFields calls K (i + 1) fs now r new) (sym cut) h)

    -- it answered
    pub Remaining-more : {v : Option FieldValue} {new : R} → ReadsField calls K f now (Ok v) new
        → Remaining (i + 1) old (values ++ value_list v) new
    unfolding ReadsFields
    Remaining-more {v = v} {new = new} reads r z rest =
        subst (λ (x : Result (List FieldValue) Fault). ReadsFields calls K 1 fields old x z)
        (behind-append values (value_list v) r)
        (next (behind (value_list v) r) z (inr (inr (v, new, r, reads, rest, refl))))

    -- it answered a reason
    pub Remaining-err : {why : Reason} {g : Fault} {new : R} → ReadsField calls K f now (Err why) new
        → g ≡ fault (i + 1) why → ReadsFields calls K 1 fields old (Err g) new
    unfolding ReadsFields
    Remaining-err {why = why} {g = g} {new = new} reads is =
        next (Err g) new (inr (inl (record { why = why; reads = reads; answer = ap Err is })))

    -- it answered a value, and memory was refused
    pub Remaining-line_refused : {v : Option FieldValue} {g : Fault} {new : R} → ReadsField calls K f now (Ok v) new
        → IsSome v → g ≡ fault (i + 1) OutOfMemory → ReadsFields calls K 1 fields old (Err g) new
    unfolding ReadsFields
    Remaining-line_refused {v = Some u} {g = g} {new = new} reads some is =
        next (Err g) new (inl (inl (record { value = u; reads = reads; answer = ap Err is })))
    Remaining-line_refused {v = None} reads some is = absurd (cc)

    -- memory for its bytes was refused
    pub Remaining-buffer_refused : {g : Fault} → asks_memory f ≡ true → g ≡ fault (i + 1) OutOfMemory
        → ReadsFields calls K 1 fields old (Err g) now
    unfolding ReadsFields
    Remaining-buffer_refused {g = g} asks is =
        next (Err g) now (inl (inr (record { asks = asks; same = refl; answer = ap Err is })))

-- the field at a place, and those behind it
pub next_field : (fields : List Field) (i : ℕ) (d : Field) → i < length fields
    → drop i fields ≡ get_or fields i d ∷ drop (i + 1) fields
next_field fields i d h = rw add-one (drop-cons fields i d h)

-- ---- the lines of values

-- what is made of the calls that are left is made of them all, and these are the lines of the values that were read
pub record Unpacking {R : Type 0} (K : BitSource R) (fields : List Field) (i : ℕ) (old : R) (text : List ℕ) (now : R) :
    Type 0 where
  pub values : List FieldValue
  pub prints : text ≡ printed_lines values
  pub remains : Remaining field_read K fields i old values now

pub Unpacking-start : {R : Type 0} (K : BitSource R) (fields : List Field) (s : R) (text : List ℕ) → text ≡ []
    → Unpacking K fields 0 s text s
Unpacking-start K fields s text none = record {
  values = [];
  prints = none;
  remains = Remaining-start field_read K fields s;
}

pub Unpacking-more : {R : Type 0} (K : BitSource R) (fields : List Field) (i : ℕ) (d : Field) (old now new :
    R) (text more : List ℕ) (v : Option FieldValue) → i < length fields → Unpacking K fields i old text now
    → ReadsField field_read K (get_or fields i d) now (Ok v) new → more ≡ text ++ printed_lines (value_list v)
    → Unpacking K fields (i + 1) old more new
Unpacking-more K fields i d old now new text more v h known reads printed = record {
  values = known.values ++ value_list v;
  prints = printed ∙ ap (λ (bs : List ℕ). bs ++ printed_lines (value_list v)) known.prints
      ∙ sym (flat_map-append printed_line known.values (value_list v));
  remains = Remaining-more field_read K fields i old now known.values (next_field fields i d h) known.remains reads;
}

pub Unpacking-end : {R : Type 0} (K : BitSource R) (fields : List Field) (i : ℕ) (old now : R) (text : List ℕ)
    → length fields ≤ i → Unpacking K fields i old text now → ReadsLines K fields old (Ok text) now
Unpacking-end K fields i old now text end known = record {
  answer = Ok known.values;
  reads = Remaining-end field_read K fields i old now known.values end known.remains;
  prints = ap Ok known.prints;
}

pub Unpacking-err : {R : Type 0} (K : BitSource R) (fields : List Field) (i : ℕ) (d : Field) (old now new : R)
    (text : List ℕ) (why : Reason) (f : Fault) → i < length fields → Unpacking K fields i old text now
    → ReadsField field_read K (get_or fields i d) now (Err why) new → f ≡ fault (i + 1) why
    → ReadsLines K fields old (Err f) new
Unpacking-err K fields i d old now new text why f h known reads is = record {
  answer = Err f;
  reads = Remaining-err field_read K fields i old now known.values (next_field fields i d h) known.remains reads is;
  prints = refl;
}

pub Unpacking-line_refused : {R : Type 0} (K : BitSource R) (fields : List Field) (i : ℕ) (d : Field) (old now new :
    R) (text : List ℕ) (v : Option FieldValue) (f : Fault) → i < length fields → Unpacking K fields i old text now
    → ReadsField field_read K (get_or fields i d) now (Ok v) new → IsSome v → f ≡ fault (i + 1) OutOfMemory
    → ReadsLines K fields old (Err f) new
Unpacking-line_refused K fields i d old now new text v f h known reads some is = record {
  answer = Err f;
  reads = Remaining-line_refused field_read K fields i old now known.values (next_field fields i d h)
      known.remains reads some is;
  prints = refl;
}

pub Unpacking-buffer_refused : {R : Type 0} (K : BitSource R) (fields : List Field) (i : ℕ) (d : Field) (old now :
    R) (text : List ℕ) (f : Fault) → i < length fields → Unpacking K fields i old text now
    → asks_memory (get_or fields i d) ≡ true → f ≡ fault (i + 1) OutOfMemory → ReadsLines K fields old (Err f) now
Unpacking-buffer_refused K fields i d old now text f h known asks is = record {
  answer = Err f;
  reads = Remaining-buffer_refused field_read K fields i old now known.values (next_field fields i d h)
      known.remains asks is;
  prints = refl;
}

-- ---- what the calls come to

first_parts : {A : Type 0} (o : Order) (e : Decoder A) (v : A) (s t : ReaderState) (h : ReadDone o e s (Ok v) t)
    → s.queue ++ bits o h.gone ≡ h.word ++ t.queue
first_parts o e v s t h = h.parts ∙ ap (λ (w : List Bool). h.word ++ w) (sym h.queue)

module _ (calls : FieldCalls) where
  -- the calls of all fields answered, and took this word
  pub record TookFields (o : Order) (k : ℕ) (fields : List Field) (old : ReaderState) (vs : List FieldValue)
      (new : ReaderState) : Type 0 where
    pub word : List Bool
    pub took : Took o old word new
    pub says : (more : List Bool) → says_by calls o k fields old.taken (word ++ more) ≡ Unpacks vs new.taken

  -- the calls of the first fields answered, the next one told a reason, and this word was taken until then
  pub record ToldFields (o : Order) (k : ℕ) (fields : List Field) (old : ReaderState) (f : Fault) (new : ReaderState) :
      Type 0 where
    pub prefix : List Field
    pub here : Field
    pub back : List Field
    pub parts : fields ≡ prefix ++ here ∷ back
    pub why : Reason
    pub reason : f ≡ fault (k + length prefix) why
    pub word : List Bool
    pub head : List Bool
    pub tail : List Bool
    pub cut : word ≡ head ++ tail
    pub gone : List ℕ
    pub loses : Consumes old.bytes new.bytes gone
    pub rest : List Bool
    pub held : old.queue ++ bits o gone ≡ word ++ rest
    pub fetched : new.fetched ≡ old.fetched + length gone
    pub taken : new.taken ≡ old.taken + length word
    pub references : new.references ≡ old.references
    pub values : List FieldValue
    pub at : ℕ
    pub place : at ≡ old.taken + length head
    pub before : (more : List Bool) → says_by calls o k prefix old.taken (word ++ more) ≡ Unpacks values at
    pub answer : Result (Result (Option FieldValue) Reason) Error
    pub found : (more : List Bool) → (calls o here).reads at (tail ++ more) ≡ Done (length tail) answer
    pub tells : TellsReason answer why
    pub says : (more : List Bool) → says_by calls o k fields old.taken (word ++ more) ≡ Stops f

  -- the calls of the first fields answered, and no memory was left for the line of the last of them
  pub record LineRefusedFields (o : Order) (k : ℕ) (fields : List Field) (old : ReaderState) (f : Fault)
      (new : ReaderState) : Type 0 where
    pub prefix : List Field
    pub here : Field
    pub back : List Field
    pub parts : fields ≡ prefix ++ here ∷ back
    pub reason : f ≡ fault (k + length prefix) OutOfMemory
    pub word : List Bool
    pub took : Took o old word new
    pub values : List FieldValue
    pub at : ℕ
    pub before : (more : List Bool) → says_by calls o k prefix old.taken (word ++ more) ≡ Unpacks values at
    pub value : FieldValue
    pub says : (more : List Bool) → says_by calls o k (prefix ++ here ∷ []) old.taken (word ++ more)
        ≡ Unpacks (values ++ value ∷ []) new.taken

  -- the calls of the first fields answered, and no memory was left for the bytes of the next of them
  pub record BufferRefusedFields (o : Order) (k : ℕ) (fields : List Field) (old : ReaderState) (f : Fault)
      (new : ReaderState) : Type 0 where
    pub prefix : List Field
    pub here : Field
    pub back : List Field
    pub parts : fields ≡ prefix ++ here ∷ back
    pub asks : asks_memory here ≡ true
    pub reason : f ≡ fault (k + length prefix) OutOfMemory
    pub word : List Bool
    pub took : Took o old word new
    pub values : List FieldValue
    pub before : (more : List Bool) → says_by calls o k prefix old.taken (word ++ more) ≡ Unpacks values new.taken

  -- the calls of the first fields answered, and no memory was left for a field
  abbrev pub MemoryRefusedFields : Order → ℕ → List Field → ReaderState → Fault → ReaderState → Type 0
  MemoryRefusedFields o k fields old f new = LineRefusedFields o k fields old f new
      ⊎ BufferRefusedFields o k fields old f new

  -- a request was refused for a field
  pub record UnpackingRefusedFields (o : Order) (may : Refusal → Type 0) (k : ℕ) (fields : List Field)
      (old : ReaderState) (f : Fault) (new : ReaderState) : Type 0 where
    pub field : ℕ
    pub refusal : Refusal
    pub allowed : may refusal
    pub reason : f ≡ fault field (read_reason (read_refusal_of refusal.kind))
    pub gone : List ℕ
    pub loses : Consumes old.bytes refusal.before gone
    pub after : new.bytes ≡ refusal.after
    pub fetched : new.fetched ≡ old.fetched + length gone
    pub references : new.references ≡ old.references
    pub stops : says_by calls o k fields old.taken (old.queue ++ bits o gone) ≡ Stops (fault field BitsEnded)
    pub ended : IsTrueEnd refusal → (xs : List ℕ) → old.bytes ≡ Some xs
        → says_by calls o k fields old.taken (old.queue ++ bits o xs) ≡ Stops (fault field BitsEnded)

  abbrev pub ComesTo : Order → (Refusal → Type 0) → ℕ → List Field → ReaderState → Result (List FieldValue) Fault
      → ReaderState → Type 0
  ComesTo o may k fields old (Ok vs) new = TookFields o k fields old vs new
  ComesTo o may k fields old (Err f) new = ToldFields o k fields old f new ⊎ MemoryRefusedFields o k fields old f new
      ⊎ UnpackingRefusedFields o may k fields old f new

  pub ComesTo-references : (o : Order) (may : Refusal → Type 0) (k : ℕ) (fields : List Field)
      (old : ReaderState) (r : Result (List FieldValue) Fault) (new : ReaderState) → ComesTo o may k fields old r new
      → new.references ≡ old.references
  ComesTo-references o may k fields old (Ok vs) new h = h.took.references
  ComesTo-references o may k fields old (Err f) new (inl h) = h.references
  ComesTo-references o may k fields old (Err f) new (inr (inl (inl h))) = h.took.references
  ComesTo-references o may k fields old (Err f) new (inr (inl (inr h))) = h.took.references
  ComesTo-references o may k fields old (Err f) new (inr (inr h)) = h.references

  -- the first field's word, and what follows it
  first_then : (o : Order) (k : ℕ) (f : Field) (fs : List Field) (v : Option FieldValue) (s t : ReaderState)
      (h : ReadDone o (calls o f) s (Ok (Ok v)) t) (more : List Bool)
      → says_by calls o k (f ∷ fs) s.taken (h.word ++ more)
      ≡ values_and (value_list v) (says_by calls o (k + 1) fs t.taken more)
  first_then o k f fs v s t h more =
      says-first calls o k f fs s.taken h.word more v (h.decides more)
      ∙ ap (λ (p : ℕ). values_and (value_list v) (says_by calls o (k + 1) fs p more)) (sym h.taken)

  -- and what follows behind another word
  word_then : (o : Order) (k : ℕ) (f : Field) (fs : List Field) (v : Option FieldValue) (s t : ReaderState)
      (h : ReadDone o (calls o f) s (Ok (Ok v)) t) (w : List Bool) (r : Unpacked)
      → ((more : List Bool) → says_by calls o (k + 1) fs t.taken (w ++ more) ≡ r) → (more : List Bool)
      → says_by calls o k (f ∷ fs) s.taken ((h.word ++ w) ++ more) ≡ values_and (value_list v) r
  word_then o k f fs v s t h w r says more =
      ap (says_by calls o k (f ∷ fs) s.taken) (append_assoc h.word w more) ∙ first_then o k f fs v s t h (w ++ more)
      ∙ ap (values_and (value_list v)) (says more)

  ToldFields-later : (o : Order) (k : ℕ) (f : Field) (fs : List Field) (v : Option FieldValue) (why : Fault)
      (s t z : ReaderState) → ReadDone o (calls o f) s (Ok (Ok v)) t → ToldFields o (k + 1) fs t why z
      → ToldFields o k (f ∷ fs) s why z
  ToldFields-later o k f fs v why s t z h x =
      let number : k + 1 + length x.prefix ≡ k + length (f ∷ x.prefix) = omega arith in
      record {
        prefix = f ∷ x.prefix;
        here = x.here;
        back = x.back;
        parts = ap (λ (gs : List Field). f ∷ gs) x.parts;
        why = x.why;
        reason = x.reason ∙ ap (λ (n : ℕ). fault n x.why) number;
        word = h.word ++ x.word;
        head = h.word ++ x.head;
        tail = x.tail;
        cut = ap (λ (w : List Bool). h.word ++ w) x.cut ∙ sym (append_assoc h.word x.head x.tail);
        gone = h.gone ++ x.gone;
        loses = Consumes-trans s.bytes t.bytes z.bytes h.gone x.gone h.loses x.loses;
        rest = x.rest;
        held = parts_left o s.queue t.queue h.word h.gone x.gone (first_parts o (calls o f) (Ok v) s t h)
            ∙ ap (λ (w : List Bool). h.word ++ w) x.held ∙ sym (append_assoc h.word x.word x.rest);
        fetched = omega (arith, h.fetched, x.fetched, length-append h.gone x.gone);
        taken = omega (arith, h.taken, x.taken, length-append h.word x.word);
        references = x.references ∙ h.references;
        values = value_list v ++ x.values;
        at = x.at;
        place = omega (arith, h.taken, x.place, length-append h.word x.head);
        before = word_then o k f x.prefix v s t h x.word (Unpacks x.values x.at) x.before;
        answer = x.answer;
        found = x.found;
        tells = x.tells;
        says = word_then o k f fs v s t h x.word (Stops why) x.says;
      }

  LineRefusedFields-later : (o : Order) (k : ℕ) (f : Field) (fs : List Field) (v : Option FieldValue) (why :
      Fault) (s t z : ReaderState) → ReadDone o (calls o f) s (Ok (Ok v)) t → LineRefusedFields o (k + 1) fs t why z
      → LineRefusedFields o k (f ∷ fs) s why z
  LineRefusedFields-later o k f fs v why s t z h x =
      let place : k + 1 + length x.prefix ≡ k + length (f ∷ x.prefix) = omega arith in
      record {
        prefix = f ∷ x.prefix;
        here = x.here;
        back = x.back;
        parts = ap (λ (gs : List Field). f ∷ gs) x.parts;
        reason = x.reason ∙ ap (λ (n : ℕ). fault n OutOfMemory) place;
        word = h.word ++ x.word;
        took = Took-trans o h.word x.word s t z (took o (calls o f) (Ok v) s t h) x.took;
        values = value_list v ++ x.values;
        at = x.at;
        before = word_then o k f x.prefix v s t h x.word (Unpacks x.values x.at) x.before;
        value = x.value;
        says = λ more.
            word_then o k f (x.prefix ++ x.here ∷ []) v s t h x.word (Unpacks (x.values ++ x.value ∷ []) z.taken) x.says
            more
            ∙ ap (λ (us : List FieldValue). Unpacks us z.taken)
            (sym (append_assoc (value_list v) x.values (x.value ∷ [])));
      }

  BufferRefusedFields-later : (o : Order) (k : ℕ) (f : Field) (fs : List Field) (v : Option FieldValue) (why :
      Fault) (s t z : ReaderState) → ReadDone o (calls o f) s (Ok (Ok v)) t
      → BufferRefusedFields o (k + 1) fs t why z → BufferRefusedFields o k (f ∷ fs) s why z
  BufferRefusedFields-later o k f fs v why s t z h x =
      let place : k + 1 + length x.prefix ≡ k + length (f ∷ x.prefix) = omega arith in
      record {
        prefix = f ∷ x.prefix;
        here = x.here;
        back = x.back;
        parts = ap (λ (gs : List Field). f ∷ gs) x.parts;
        asks = x.asks;
        reason = x.reason ∙ ap (λ (n : ℕ). fault n OutOfMemory) place;
        word = h.word ++ x.word;
        took = Took-trans o h.word x.word s t z (took o (calls o f) (Ok v) s t h) x.took;
        values = value_list v ++ x.values;
        before = word_then o k f x.prefix v s t h x.word (Unpacks x.values z.taken) x.before;
      }

  UnpackingRefusedFields-later : (o : Order) (may : Refusal → Type 0) (k : ℕ) (f : Field) (fs : List Field)
      (v : Option FieldValue) (why : Fault) (s t z : ReaderState) → ReadDone o (calls o f) s (Ok (Ok v)) t
      → UnpackingRefusedFields o may (k + 1) fs t why z → UnpackingRefusedFields o may k (f ∷ fs) s why z
  UnpackingRefusedFields-later o may k f fs v why s t z h x =
      let first = took o (calls o f) (Ok v) s t h in
      let whole = parts_left o s.queue t.queue h.word h.gone x.gone (first_parts o (calls o f) (Ok v) s t h) in
      record {
        field = x.field;
        refusal = x.refusal;
        allowed = x.allowed;
        reason = x.reason;
        gone = h.gone ++ x.gone;
        loses = Consumes-trans s.bytes t.bytes x.refusal.before h.gone x.gone h.loses x.loses;
        after = x.after;
        fetched = omega (arith, h.fetched, x.fetched, length-append h.gone x.gone);
        references = x.references ∙ h.references;
        stops = ap (says_by calls o k (f ∷ fs) s.taken) whole ∙ first_then o k f fs v s t h (t.queue ++ bits o x.gone)
            ∙ ap (values_and (value_list v)) x.stops;
        ended = λ end xs known.
            let left = Took-left o h.word s t first xs known in
            ap (says_by calls o k (f ∷ fs) s.taken) left.2 ∙ first_then o k f fs v s t h (t.queue ++ bits o left.0)
            ∙ ap (values_and (value_list v)) (x.ended end left.0 left.1);
      }

  -- what follows a field that answered
  ComesTo-later : (o : Order) (may : Refusal → Type 0) (k : ℕ) (f : Field) (fs : List Field) (v : Option FieldValue)
      (r : Result (List FieldValue) Fault) (s t z : ReaderState) → ReadDone o (calls o f) s (Ok (Ok v)) t
      → ComesTo o may (k + 1) fs t r z → ComesTo o may k (f ∷ fs) s (behind (value_list v) r) z
  ComesTo-later o may k f fs v (Ok ws) s t z h x = record {
    word = h.word ++ x.word;
    took = Took-trans o h.word x.word s t z (took o (calls o f) (Ok v) s t h) x.took;
    says = word_then o k f fs v s t h x.word (Unpacks ws z.taken) x.says;
  }
  ComesTo-later o may k f fs v (Err why) s t z h (inl x) = inl (ToldFields-later o k f fs v why s t z h x)
  ComesTo-later o may k f fs v (Err why) s t z h (inr (inl (inl x))) =
      inr (inl (inl (LineRefusedFields-later o k f fs v why s t z h x)))
  ComesTo-later o may k f fs v (Err why) s t z h (inr (inl (inr x))) =
      inr (inl (inr (BufferRefusedFields-later o k f fs v why s t z h x)))
  ComesTo-later o may k f fs v (Err why) s t z h (inr (inr x)) =
      inr (inr (UnpackingRefusedFields-later o may k f fs v why s t z h x))

  -- a field answered a fault, which its bits say
  ToldFields-here : (o : Order) (k : ℕ) (f : Field) (fs : List Field) (r : Result (Result (Option FieldValue)
      Reason) Error) (why : Reason) (s t : ReaderState) → TellsReason r why → (h : ReadDone o (calls o f) s r t)
      → ((more : List Bool) → says_by calls o k (f ∷ fs) s.taken (h.word ++ more) ≡ Stops (fault k why))
      → ToldFields o k (f ∷ fs) s (fault k why) t
  ToldFields-here o k f fs r why s t tells h says =
      let number : k ≡ k + 0 = omega arith in
      record {
        prefix = [];
        here = f;
        back = fs;
        parts = refl;
        why = why;
        reason = ap (λ (n : ℕ). fault n why) number;
        word = h.word;
        head = [];
        tail = h.word;
        cut = refl;
        gone = h.gone;
        loses = h.loses;
        rest = h.rest;
        held = h.parts;
        fetched = h.fetched;
        taken = h.taken;
        references = h.references;
        values = [];
        at = s.taken;
        place = omega arith;
        before = λ more. refl;
        answer = r;
        found = h.decides;
        tells = tells;
        says = says;
      }

  -- a field's call faulted
  UnpackingRefusedFields-here : (o : Order) (may : Refusal → Type 0) (k : ℕ) (f : Field) (fs : List Field)
      (x : Error) (s t : ReaderState) → ReadRefused o may (calls o f) s (Err x) t
      → UnpackingRefusedFields o may k (f ∷ fs) s (fault k (read_reason x)) t
  UnpackingRefusedFields-here o may k f fs x s t h =
      let same : x ≡ read_refusal_of h.refusal.kind = (let a = h.answer in cc) in
      record {
        field = k;
        refusal = h.refusal;
        allowed = h.allowed;
        reason = ap (λ (e : Error). fault k (read_reason e)) same;
        gone = h.gone;
        loses = h.loses;
        after = h.after;
        fetched = h.fetched;
        references = h.references;
        stops = says-short calls o k f fs s.taken (s.queue ++ bits o h.gone) h.few;
        ended = λ end xs known. says-short calls o k f fs s.taken (s.queue ++ bits o xs) (h.ended end xs known);
      }

  -- no memory was left for a field's line
  LineRefusedFields-here : (o : Order) (k : ℕ) (f : Field) (fs : List Field) (v : FieldValue) (s t : ReaderState)
      → ReadDone o (calls o f) s (Ok (Ok (Some v))) t → LineRefusedFields o k (f ∷ fs) s (fault k OutOfMemory) t
  LineRefusedFields-here o k f fs v s t h =
      let place : k ≡ k + 0 = omega arith in
      record {
        prefix = [];
        here = f;
        back = fs;
        parts = refl;
        reason = ap (λ (n : ℕ). fault n OutOfMemory) place;
        word = h.word;
        took = took o (calls o f) (Ok (Some v)) s t h;
        values = [];
        at = s.taken;
        before = λ more. refl;
        value = v;
        says = first_then o k f [] (Some v) s t h;
      }

  -- no memory was left for a field's bytes
  BufferRefusedFields-here : (o : Order) (k : ℕ) (f : Field) (fs : List Field) (s : ReaderState) → s.failed ≡ false
      → asks_memory f ≡ true → BufferRefusedFields o k (f ∷ fs) s (fault k OutOfMemory) s
  BufferRefusedFields-here o k f fs s fine asks =
      let place : k ≡ k + 0 = omega arith in
      record {
        prefix = [];
        here = f;
        back = fs;
        parts = refl;
        asks = asks;
        reason = ap (λ (n : ℕ). fault n OutOfMemory) place;
        word = [];
        took = Took-nil o s fine;
        values = [];
        before = λ more. refl;
      }

  ComesTo-none : (o : Order) (may : Refusal → Type 0) (k : ℕ) (s : ReaderState) → s.failed ≡ false
      → ComesTo o may k [] s (Ok []) s
  ComesTo-none o may k s fine = record { word = []; took = Took-nil o s fine; says = λ more. refl }

  -- one call, and what the others come to
  line_refused_here : {R : Type 0} (K : BitSource R) (k : ℕ) (f : Field) (fs : List Field) (v : FieldValue)
      (old new : R) → (K.state old).failed ≡ false → Reads K (calls K.order f) old (Ok (Ok (Some v))) new
      → ComesTo K.order K.may k (f ∷ fs) (K.state old) (Err (fault k OutOfMemory)) (K.state new)
  line_refused_here K k f fs v old new fine (had_failed x) = absurd (let failed = x.failed in cc)
  line_refused_here K k f fs v old new fine (was_done x) =
      inr (inl (inl (LineRefusedFields-here K.order k f fs v (K.state old) (K.state new) x)))
  line_refused_here K k f fs v old new fine (was_refused x) = absurd (let a = x.answer in cc)
  line_refused_here K k f fs v old new fine (memory_refused grows x) = absurd (cc)

  refused_here : {R : Type 0} (K : BitSource R) (k : ℕ) (f : Field) (fs : List Field) (e : Error) (old new : R)
      → (K.state old).failed ≡ false → Reads K (calls K.order f) old (Err e) new
      → ComesTo K.order K.may k (f ∷ fs) (K.state old) (Err (fault k (read_reason e))) (K.state new)
  refused_here K k f fs e old new fine (had_failed x) = absurd (let failed = x.failed in cc)
  refused_here K k f fs e old new fine (was_done x) =
      inl (ToldFields-here K.order k f fs (Err e) (read_reason e) (K.state old) (K.state new) refl x
      (λ more. says-refused calls K.order k f fs (K.state old).taken (length x.word) (x.word ++ more) e
      (x.decides more)))
  refused_here K k f fs e old new fine (was_refused x) =
      inr (inr (UnpackingRefusedFields-here K.order K.may k f fs e (K.state old) (K.state new) x))
  refused_here K k f fs e old new fine (memory_refused grows x) = absurd (cc)

  told_here : {R : Type 0} (K : BitSource R) (k : ℕ) (f : Field) (fs : List Field) (why : Reason) (old new : R)
      → (K.state old).failed ≡ false → Reads K (calls K.order f) old (Ok (Err why)) new
      → ComesTo K.order K.may k (f ∷ fs) (K.state old) (Err (fault k why)) (K.state new)
  told_here K k f fs why old new fine (had_failed x) = absurd (let failed = x.failed in cc)
  told_here K k f fs why old new fine (was_done x) =
      inl (ToldFields-here K.order k f fs (Ok (Err why)) why (K.state old) (K.state new) refl x
      (λ more. says-told calls K.order k f fs (K.state old).taken (length x.word) (x.word ++ more) why
      (x.decides more)))
  told_here K k f fs why old new fine (was_refused x) = absurd (let a = x.answer in cc)
  told_here K k f fs why old new fine (memory_refused grows x) = absurd (cc)

  -- a reason, by what the reader answered: one that the field's bits say, or an error
  reason_here : {R : Type 0} (K : BitSource R) (k : ℕ) (f : Field) (fs : List Field) (why : Reason) (old new : R)
      (plain : Result (Result (Option FieldValue) Reason) Error) → (K.state old).failed ≡ false
      → Reads K (calls K.order f) old plain new → OwnAnswer IsReadReason (λ answer. answer) plain (Err why)
      → ComesTo K.order K.may k (f ∷ fs) (K.state old) (Err (fault k why)) (K.state new)
  reason_here K k f fs why old new (Ok answer) fine h is =
      told_here K k f fs why old new fine
      (subst (λ (a : Result (Option FieldValue) Reason). Reads K (calls K.order f) old (Ok a) new) (sym is) h)
  reason_here K k f fs why old new (Err e) fine h is =
      subst (λ (x : Reason). ComesTo K.order K.may k (f ∷ fs) (K.state old) (Err (fault k x)) (K.state new)) (sym is)
      (refused_here K k f fs e old new fine h)

  -- a value, by what the reader answered
  value_read : {R : Type 0} (K : BitSource R) (f : Field) (v : Option FieldValue) (old new : R)
      (plain : Result (Result (Option FieldValue) Reason) Error) → Reads K (calls K.order f) old plain new
      → OwnAnswer IsReadReason (λ answer. answer) plain (Ok v) → Reads K (calls K.order f) old (Ok (Ok v)) new
  value_read K f v old new (Ok answer) h is =
      subst (λ (a : Result (Option FieldValue) Reason). Reads K (calls K.order f) old (Ok a) new) (sym is) h
  value_read K f v old new (Err e) h is = absurd is

  answered_here : {R : Type 0} (K : BitSource R) (k : ℕ) (f : Field) (fs : List Field) (v : Option FieldValue)
      (rest : Result (List FieldValue) Fault) (old mid new : R) → (K.state old).failed ≡ false
      → Reads K (calls K.order f) old (Ok (Ok v)) mid → ((K.state mid).failed ≡ false
      → ComesTo K.order K.may (k + 1) fs (K.state mid) rest (K.state new))
      → ComesTo K.order K.may k (f ∷ fs) (K.state old) (behind (value_list v) rest) (K.state new)
  answered_here K k f fs v rest old mid new fine (had_failed x) others = absurd (let failed = x.failed in cc)
  answered_here K k f fs v rest old mid new fine (was_done x) others =
      ComesTo-later K.order K.may k f fs v rest (K.state old) (K.state mid) (K.state new) x (others x.failed)
  answered_here K k f fs v rest old mid new fine (was_refused x) others = absurd (let a = x.answer in cc)
  answered_here K k f fs v rest old mid new fine (memory_refused grows x) others = absurd (cc)

  -- what the calls of fields come to, made by a reader that has not failed
  pub ComesTo-calls : {R : Type 0} (K : BitSource R) (k : ℕ) (fields : List Field) (old : R)
      (r : Result (List FieldValue) Fault) (new : R) → (K.state old).failed ≡ false
      → ReadsFields calls K k fields old r new
      → ComesTo K.order K.may k fields (K.state old) r (K.state new)
  unfolding ReadsFields
  ComesTo-calls {R} K k [] old r new fine h =
      subst (λ (x : Result (List FieldValue) Fault). ComesTo K.order K.may k [] (K.state old) x (K.state new)) (sym h.0)
      (subst (λ (z : R). ComesTo K.order K.may k [] (K.state old) (Ok []) (K.state z)) (sym h.1)
      (ComesTo-none K.order K.may k (K.state old) fine))
  ComesTo-calls {R} K k (f ∷ fs) old r new fine (inl (inr h)) =
      subst (λ (x : Result (List FieldValue) Fault). ComesTo K.order K.may k (f ∷ fs) (K.state old) x (K.state new))
      (sym h.answer)
      (subst (λ (z : R). ComesTo K.order K.may k (f ∷ fs) (K.state old) (Err (fault k OutOfMemory)) (K.state z))
      (sym h.same) (inr (inl (inr (BufferRefusedFields-here K.order k f fs (K.state old) fine h.asks)))))
  ComesTo-calls K k (f ∷ fs) old r new fine (inl (inl h)) =
      subst (λ (x : Result (List FieldValue) Fault). ComesTo K.order K.may k (f ∷ fs) (K.state old) x (K.state new))
      (sym h.answer) (line_refused_here K k f fs h.value old new fine
      (value_read K f (Some h.value) old new h.reads.plain h.reads.called h.reads.answer))
  ComesTo-calls K k (f ∷ fs) old r new fine (inr (inl h)) =
      subst (λ (x : Result (List FieldValue) Fault). ComesTo K.order K.may k (f ∷ fs) (K.state old) x (K.state new))
      (sym h.answer) (reason_here K k f fs h.why old new h.reads.plain fine h.reads.called h.reads.answer)
  ComesTo-calls K k (f ∷ fs) old r new fine (inr (inr (v, mid, rest, reads, others, is))) =
      subst (λ (x : Result (List FieldValue) Fault). ComesTo K.order K.may k (f ∷ fs) (K.state old) x (K.state new))
      (sym is)
      (answered_here K k f fs v rest old mid new fine
      (value_read K f v old mid reads.plain reads.called reads.answer)
      (λ sound. ComesTo-calls K (k + 1) fs mid rest new sound others))
