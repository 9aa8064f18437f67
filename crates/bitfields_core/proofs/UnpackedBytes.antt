-- Unpacking from the first byte of a stream on.
use Rattle.std.specs.Prelude.{Bool, false, IsErrAnd}
use Rattle.std.specs.Borrow.{GName}
use Rattle.bitstream_io.specs.Reference.{Reference, by_name}
use Rattle.std.specs.Io.KnownBytes.{Consumes}
use Rattle.std.specs.declared.io.ErrorKind.{ErrorKind}
use Rattle.std.proofs.Common.{◌≡◌, ℕ, ◌+◌, List, [], ◌∷◌, ◌++◌, length, drop, Option, Some, Result, Ok, Err, refl, sym, ap, ap₂, ◌∙◌, ◌⊎◌, subst, arith, append_assoc, length-append, inl, inr}
use Rattle.std.proofs.Math.Seq.{drop-append_seam}
use Rattle.bitstream_io.specs.Word.{Order, bits}
use Rattle.bitstream_io.specs.Gather.{result_map}
use Rattle.bitstream_io.specs.Fault.{read_refusal_of}
use Rattle.bitstream_io.specs.Refusal.{Refusal, MayRefuse, MayRefuseRead, TrueEnds}
use Rattle.bitstream_io.specs.Streams.{InputStream}
use Rattle.bitstream_io.proofs.WordLemmas.{bits-append}
use Rattle.bitstream_io.proofs.ReadsLemmas.{Consumes-known}
use Rattle.bitstream_io.specs.Reader.{new_reader_state}
use Rattle.bitstream_io.specs.Reads.{ReaderState, BitSource, Demands}
use Rattle.bitfields_core.specs.declared.fault.Fault.{Fault}
use Rattle.bitfields_core.specs.declared.fault.Reason.TheVariants.{OutOfMemory}
use Rattle.bitfields_core.specs.declared.field.Field.{Field}
use Rattle.bitfields_core.specs.declared.field_value.FieldValue.{FieldValue}
use Rattle.bitfields_core.specs.Fault.{fault}
use Rattle.bitfields_core.specs.Unpacking.{FieldCalls, Unpacks, Stops, says_by, unpack_bits, field_read, read_reason, in_lines, ReadsFields, ReadsLines, SaidValues, FieldsFault, TakesLeastBytes, UnpackedBytes, UnpacksBytes, IsSaid}
use Rattle.bitfields_core.proofs.UnpackingLemmas.{ComesTo, ComesTo-calls, ComesTo-references}

-- a new reader fetched the bytes that the bits taken reach into
bytes_taken : (known : Option (List ℕ)) (references : List Reference) (n : ℕ) (gone : List ℕ) (t : ReaderState)
    → Demands t → Consumes known t.bytes gone → t.fetched ≡ 0 + length gone → t.taken ≡ 0 + n
    → TakesLeastBytes known gone t.taken t.bytes
bytes_taken known references n gone t demands loses fetched taken = record {
  loses = loses;
  least = (omega (arith, demands, fetched), omega (arith, demands, fetched));
}

-- what is said whatever follows a word, is said by the bytes that hold it
told_by : {A : Type 0} (o : Order) (f : List Bool → A) (gone : List ℕ) (w rest : List Bool) (a : A) → [] ++ bits o gone
    ≡ w ++ rest → ((more : List Bool) → f (w ++ more) ≡ a) → f (bits o gone) ≡ a
told_by o f gone w rest a parts says = ap f parts ∙ says rest

-- and by these, whatever follows them
told_whatever : {A : Type 0} (o : Order) (f : List Bool → A) (gone : List ℕ) (w rest : List Bool) (a : A) → []
    ++ bits o gone ≡ w ++ rest → ((more : List Bool) → f (w ++ more) ≡ a)
    → (more : List Bool) → f (bits o gone ++ more) ≡ a
told_whatever o f gone w rest a parts says more = ap (λ (b : List Bool). f (b ++ more)) parts
    ∙ ap f (append_assoc w rest more) ∙ says (rest ++ more)

-- the bits of these behind the first of two parts of the word
behind_head : (o : Order) (gone : List ℕ) (w head tail rest : List Bool) (at : ℕ) → [] ++ bits o gone ≡ w ++ rest
    → w ≡ head ++ tail → at ≡ 0 + length head → drop at (bits o gone) ≡ tail ++ rest
behind_head o gone w head tail rest at held cut place =
    let first : at ≡ length head = omega arith in
    ap₂ (λ (n : ℕ) (b : List Bool). drop n b) first
    (held ∙ ap (λ (b : List Bool). b ++ rest) cut ∙ append_assoc head tail rest)
    ∙ drop-append_seam head (tail ++ rest)

-- the values and faults of a new reader's calls, by the bytes of its stream
abbrev pub FieldsKnown : FieldCalls → (Refusal → Type 0) → Order → List Field → Option (List ℕ)
    → Result (List FieldValue) Fault → Option (List ℕ) → Type 0
FieldsKnown calls may o fields old (Ok vs) new = SaidValues calls o fields old vs new
FieldsKnown calls may o fields old (Err f) new = FieldsFault calls may o fields old f new

module _ (calls : FieldCalls) (may allowed : Refusal → Type 0) (o : Order) (fields : List Field) where
  FieldsKnown-from : (known : Option (List ℕ)) (references : List Reference) (r : Result (List FieldValue) Fault)
      (t : ReaderState) → ((x : Refusal) → may x → allowed x) → Demands t
      → ComesTo calls o may 1 fields (new_reader_state known references) r t
      → FieldsKnown calls allowed o fields known r t.bytes
  FieldsKnown-from known references (Ok vs) t is demands h = record {
    gone = h.took.gone;
    len = t.taken;
    taken = bytes_taken known references (length h.word) h.took.gone t demands h.took.loses h.took.fetched
        h.took.taken;
    says = told_whatever o (says_by calls o 1 fields 0) h.took.gone h.word t.queue (Unpacks vs t.taken) h.took.parts
        h.says;
  }
  FieldsKnown-from known references (Err f) t is demands (inl h) =
      let size : t.taken ≡ h.at + length h.tail =
      omega (arith, h.taken, h.place, ap length h.cut, length-append h.head h.tail) in
      inl (record {
        prefix = h.prefix;
        here = h.here;
        back = h.back;
        parts = h.parts;
        why = h.why;
        reason = h.reason;
        gone = h.gone;
        values = h.values;
        at = h.at;
        before = told_by o (says_by calls o 1 h.prefix 0) h.gone h.word h.rest (Unpacks h.values h.at) h.held h.before;
        len = length h.tail;
        answer = h.answer;
        found = ap ((calls o h.here).reads h.at) (behind_head o h.gone h.word h.head h.tail h.rest h.at h.held h.cut h.place)
            ∙ h.found h.rest;
        tells = h.tells;
        taken = subst (λ (n : ℕ). TakesLeastBytes known h.gone n t.bytes) size
            (bytes_taken known references (length h.word) h.gone t demands h.loses h.fetched h.taken);
        says = told_whatever o (says_by calls o 1 fields 0) h.gone h.word h.rest (Stops f) h.held h.says;
      })
  FieldsKnown-from known references (Err f) t is demands (inr (inl (inl h))) = inr (inl (inl (record {
    prefix = h.prefix;
    here = h.here;
    back = h.back;
    parts = h.parts;
    reason = h.reason;
    gone = h.took.gone;
    len = t.taken;
    taken = bytes_taken known references (length h.word) h.took.gone t demands h.took.loses h.took.fetched
        h.took.taken;
    values = h.values;
    at = h.at;
    before = told_by o (says_by calls o 1 h.prefix 0) h.took.gone h.word t.queue (Unpacks h.values h.at) h.took.parts
        h.before;
    value = h.value;
    says = told_by o (says_by calls o 1 (h.prefix ++ h.here ∷ []) 0) h.took.gone h.word t.queue
        (Unpacks (h.values ++ h.value ∷ []) t.taken) h.took.parts h.says;
  })))
  FieldsKnown-from known references (Err f) t is demands (inr (inl (inr h))) = inr (inl (inr (record {
    prefix = h.prefix;
    here = h.here;
    back = h.back;
    parts = h.parts;
    asks = h.asks;
    reason = h.reason;
    gone = h.took.gone;
    len = t.taken;
    taken = bytes_taken known references (length h.word) h.took.gone t demands h.took.loses h.took.fetched
        h.took.taken;
    values = h.values;
    before = told_by o (says_by calls o 1 h.prefix 0) h.took.gone h.word t.queue (Unpacks h.values t.taken) h.took.parts
        h.before;
  })))
  FieldsKnown-from known references (Err f) t is demands (inr (inr h)) = inr (inr (record {
    field = h.field;
    refusal = h.refusal;
    allowed = is h.refusal h.allowed;
    reason = h.reason;
    gone = h.gone;
    loses = h.loses;
    after = h.after;
    stops = h.stops;
    ended = λ end xs told.
        h.ended end xs told
        ∙ ap Stops (sym (h.reason ∙ ap (λ (kind : ErrorKind). fault h.field (read_reason (read_refusal_of kind)))
        end.kind));
  }))

-- the lines of fields, or their fault, by the bytes of a stream
abbrev pub LinesKnown : (Refusal → Type 0) → Order → List Field → Option (List ℕ) → Result (List ℕ) Fault
    → Option (List ℕ) → Type 0
LinesKnown may o fields old (Ok text) new = UnpackedBytes o fields old text new
LinesKnown may o fields old (Err f) new = FieldsFault field_read may o fields old f new

-- the lines of values that bytes say
in_lines_known : (may : Refusal → Type 0) (o : Order) (fields : List Field) (old new : Option (List ℕ))
    (r : Result (List FieldValue) Fault) → FieldsKnown field_read may o fields old r new
    → LinesKnown may o fields old (in_lines r) new
in_lines_known may o fields old new (Ok vs) h =
    record { gone = h.gone; len = h.len; taken = h.taken; values = vs; says = h.says; prints = refl }
in_lines_known may o fields old new (Err f) h = h

-- a refusal of a stream that is seen through another state is one of that stream
pub MayRefuse-map : {R S : Type 0} (f : S → R) (name : S → GName) (known : R → Option (List ℕ))
    (references : R → List Reference) (refuses : R → ℕ → ErrorKind → R → Type 0) (x : Refusal)
    → MayRefuse (λ s. known (f s)) (λ s. by_name (name s) ∷ references (f s)) (λ s n kind t. refuses (f s) n kind (f t))
    x → MayRefuse known references refuses x
MayRefuse-map f name known references refuses x h = record {
  old = f h.old;
  new = f h.new;
  capacity = h.capacity;
  before = h.before;
  after = h.after;
  refused = h.refused;
}

-- what the calls of a new reader come to
pub Fields-from : {R : Type 0} (calls : FieldCalls) (K : BitSource R) (allowed : Refusal → Type 0) (fields : List Field)
    (known : Option (List ℕ)) (references : List Reference) (old new : R) (answer : Result (List FieldValue) Fault)
    → ((x : Refusal) → K.may x → allowed x) → K.state old ≡ new_reader_state known references
    → ReadsFields calls K 1 fields old answer new
    → FieldsKnown calls allowed K.order fields known answer (K.state new).bytes
    × ((K.state new).references ≡ references)
Fields-from calls K allowed fields known references old new answer is fresh h =
    let fine : (K.state old).failed ≡ false = ap (λ (s : ReaderState). s.failed) fresh in
    let comes = ComesTo-calls calls K 1 fields old answer new fine h in
    let anew = subst (λ (s : ReaderState). ComesTo calls K.order K.may 1 fields s answer (K.state new)) fresh comes in (
      FieldsKnown-from calls K.may allowed K.order fields known references answer (K.state new) is (K.demands new)
          anew,
      ComesTo-references calls K.order K.may 1 fields (new_reader_state known references) answer (K.state new)
          anew,
    )

-- and the lines of their values
pub Unpacks-from : {R : Type 0} (K : BitSource R) (allowed : Refusal → Type 0) (fields : List Field)
    (known : Option (List ℕ)) (references : List Reference) (old new : R) (result : Result (List ℕ) Fault)
    → ((x : Refusal) → K.may x → allowed x)
    → K.state old ≡ new_reader_state known references → ReadsLines K fields old result new
    → LinesKnown allowed K.order fields known result (K.state new).bytes
    × ((K.state new).references ≡ references)
Unpacks-from K allowed fields known references old new result is fresh h =
    let all = Fields-from field_read K allowed fields known references old new h.answer is fresh h.reads in (
      subst (λ (r : Result (List ℕ) Fault). LinesKnown allowed K.order fields known r
          (K.state new).bytes) (sym h.prints)
          (in_lines_known allowed K.order fields known (K.state new).bytes h.answer all.0),
      all.1,
    )

pub UnpacksBytes-exit : {R V : Type 0} (I : InputStream R) (o : Order)
    (fields : List Field) (old new : R) (view : V → List ℕ) (r : Result V Fault) (f : Fault)
    → IsErrAnd r (λ e. e ≡ f) → UnpacksBytes I o fields old (Err f) new
    → UnpacksBytes I o fields old (result_map view r) new
UnpacksBytes-exit I o fields old new view (Ok v) f h k = absurd h
UnpacksBytes-exit I o fields old new view (Err e) f h k =
    subst (λ (x : Fault). UnpacksBytes I o fields old (Err x) new) (sym h) k

-- what the bytes taken say, whatever follows them, all bytes say
said_by : {A : Type 0} (o : Order) (f : List Bool → A) (known after : Option (List ℕ)) (gone xs : List ℕ) (a : A)
    → Consumes known after gone → known ≡ Some xs → ((more : List Bool) → f (bits o gone ++ more) ≡ a) → f (bits o xs)
    ≡ a
said_by o f known after gone xs a loses told says =
    let rest = Consumes-known known after gone xs loses told in
    ap (λ (bytes : List ℕ). f (bits o bytes)) rest.2 ∙ ap f (bits-append o gone rest.0) ∙ says (bits o rest.0)

module _ (calls : FieldCalls) (o : Order) (fields : List Field) (old new : Option (List ℕ)) (xs : List ℕ)
    (told : old ≡ Some xs) where
  -- all bytes of a stream say the values
  pub all_say : (vs : List FieldValue) (h : SaidValues calls o fields old vs new)
      → says_by calls o 1 fields 0 (bits o xs) ≡ Unpacks vs h.len
  all_say vs h =
      said_by o (says_by calls o 1 fields 0) old new h.gone xs (Unpacks vs h.len) h.taken.loses told h.says

  -- if its refusals are all true ends, they say the fault, refused memory aside
  pub all_say_fault : (may : Refusal → Type 0) (f : Fault) → TrueEnds may → FieldsFault calls may o fields old f new
      → (f.reason ≡ OutOfMemory) ⊎ (says_by calls o 1 fields 0 (bits o xs) ≡ Stops f)
  all_say_fault may f ends (inl h) =
      inr (said_by o (says_by calls o 1 fields 0) old new h.gone xs (Stops f) h.taken.loses told h.says)
  all_say_fault may f ends (inr (inl (inl h))) = inl (ap (λ (why : Fault). why.reason) h.reason)
  all_say_fault may f ends (inr (inl (inr h))) = inl (ap (λ (why : Fault). why.reason) h.reason)
  all_say_fault may f ends (inr (inr h)) = inr (h.ended (ends h.refusal h.allowed) xs told)

-- over a source whose refusals are all true ends, a refusal is exactly that of the bits
pub said : {R : Type 0} (I : InputStream R) (o : Order) (fields : List Field) (old new : R) (result : Result (List ℕ) Fault) → UnpacksBytes I o fields old result new
    → TrueEnds (MayRefuseRead I)
    → (xs : List ℕ) → I.remaining old ≡ Some xs → IsSaid o fields xs result
said I o fields old new (Ok text) h ends xs told = record {
  values = h.values;
  len = h.len;
  says = said_by o (unpack_bits o 1 fields 0) (I.remaining old) (I.remaining new) h.gone xs (Unpacks h.values h.len) h.taken.loses told
      h.says;
  prints = h.prints;
}
said I o fields old new (Err f) h ends xs told =
    all_say_fault field_read o fields (I.remaining old) (I.remaining new) xs told (MayRefuseRead I) f ends h
