-- A code word after the queue of a writer: each bit before the last one of a byte only goes into the queue.
use Rattle.std.proofs.Common.{◌≡◌, ℕ, ◌+◌, ◌-◌, ◌^◌, ◌<◌, ◌≤◌, Bool, true, false, cond, List, [], ◌∷◌, ◌++◌, length, take, drop, Result, Ok, Err, refl, sym, ap, ap₂, ◌∙◌, subst, arith, append-nil, append_assoc, length-append}
use Rattle.std.specs.Result.{IsErrAnd}
use Rattle.std.specs.Io.KnownBytes.{Appends}
use Rattle.std.proofs.KnownBytes.{Appends-nil}
use Rattle.std.proofs.Math.Nat.{pow-le-pow_right}
use Rattle.std.proofs.Math.Seq.{drop-append-add, drop-append_seam, take-append-add}
use Rattle.std.proofs.lemmas.Bool.{false≢true}
use Rattle.std.proofs.lemmas.List.{drop-drop, drop-take, length-drop, length-take-le, map-append, take-append-drop, take_all}
use Rattle.bitstream_number.specs.Word.{Order, bits, word}
use Rattle.bitstream_number.proofs.WordLemmas.{length-word}
use Rattle.bitstream_count.specs.declared.error.Error.{Error}
use Rattle.bitstream_order.specs.Parts.{piece, put_number}
use Rattle.bitstream_order.specs.Port.{PortState, Sent, SendRefused, target_state}
use Rattle.bitstream_order.specs.Refusal.{MayRefuseWrite}
use Rattle.bitstream_order.specs.Streams.{OutputStream}
use Rattle.bitstream_order.specs.declared.port.Port.{Port}
use Rattle.bitstream_order.proofs.Moving.PieceLemmas.{piece_more}
use Rattle.bitstream_order.proofs.Moving.TakeLemmas.{word-none}
use Rattle.bitstream_order.proofs.PartLemmas.{put_below, put_word}
use Rattle.bitstream_stream.specs.Writing.Sink.{Writes, WritesAll, Appended, WriteRefused, was_done, was_refused}
use Rattle.bitstream_stream.specs.Writing.Writer.{writer_state, writer_sink, queue_sink}
use Rattle.bitstream_stream.specs.Writing.WriteTable.{bit, bit_by_bit}
use Rattle.bitstream_stream.specs.declared.write.writer.BitWriter.{BitWriter}
use Rattle.bitstream_stream.proofs.Shared.{exit_is}
use Rattle.bitstream_stream.proofs.Writing.CodeWordLemmas.{wrote-same}
use Rattle.bitstream_stream.proofs.Writing.SinkLemmas.{inner}
use Rattle.bitstream_stream.proofs.Writing.WriteLemmas.{word-bit}
use Rattle.bitstream_stream.proofs.Writing.WriteParts.{all_append, all_more, all_none, all_one, all_stop}
use Rattle.bitstream_stream.proofs.Writing.WriterLemmas.{pushed_fault}

-- ---- lists

-- a list that is not empty, and its last element
pub record Last {A : Type 0} (xs : List A) : Type 0 where
  pub others : List A
  pub last : A
  pub parts : xs ≡ others ++ last ∷ []

pub last-of : {A : Type 0} (xs : List A) → 0 < length xs → Last xs
last-of [] some = absurd (omega (arith, some))
last-of (x ∷ []) some = record { others = []; last = x; parts = refl }
last-of (x ∷ y ∷ xs) some =
    let rest = last-of (y ∷ xs) (omega arith) in
    record {
      others = x ∷ rest.others;
      last = rest.last;
      parts = ap (λ l. x ∷ l) rest.parts;
    }

-- a part of an encoding
pub piece-at : (o : Order) (n v at k : ℕ) → at + k ≤ n
    → word o k (piece o n v at k) ≡ take k (drop at (word o n v))
piece-at o n v at k le =
    let w = word o n v in
    let size = length-word o n v in
    let prefix : length (take at w) ≡ at = length-take-le at w (omega (arith, size)) in
    let part = word o k (piece o n v at k) in
    sym (drop-append_seam (take at w) part) ∙ ap (λ (i : ℕ). drop i (take at w ++ part)) prefix
    ∙ ap (drop at) (sym (piece_more o n v at k le)) ∙ drop-take at k w

-- the queue and a code word as one number
pub put-all : (o : Order) (queued queue acc n part all : ℕ) (w : List Bool) → queue < 2 ^ queued → acc ≡ queue
    → n ≡ length w → part < 2 ^ length w → word o (length w) part ≡ w → all ≡ put_number o acc queued part n
    → word o (queued + n) all ≡ word o queued queue ++ w
put-all o queued queue acc n part all w below same size small is put =
    ap (word o (queued + n)) (put ∙ ap (λ (a : ℕ). put_number o a queued part n) same)
    ∙ put_word o queue queued part n below (subst (λ (k : ℕ). part < 2 ^ k) (sym size) small)
    ∙ ap (λ (x : List Bool). word o queued queue ++ x) (ap (λ (k : ℕ). word o k part) size ∙ is)

pub all-below : (o : Order) (queued queue acc n part all : ℕ) (w : List Bool) → queue < 2 ^ queued → acc ≡ queue
    → n ≡ length w → part < 2 ^ length w → all ≡ put_number o acc queued part n → all < 2 ^ (queued + n)
all-below o queued queue acc n part all w below same size small put =
    subst (λ (x : ℕ). x < 2 ^ (queued + n)) (sym (put ∙ ap (λ (a : ℕ). put_number o a queued part n) same))
    (put_below o queue queued part n below (subst (λ (k : ℕ). part < 2 ^ k) (sym size) small))

pub below-byte : (total all : ℕ) → total < 8 → all < 2 ^ total → all < 256
below-byte total all few small =
    let seven : total ≤ 7 = omega (arith, few) in
    let most : 2 ^ total ≤ 2 ^ 7 = pow-le-pow_right (omega arith) seven in
    omega (arith, small, most)

bit-below : (b : Bool) → cond b 1 0 < 2 ^ 1
bit-below true = omega arith
bit-below false = omega arith

-- ---- bits that fill no byte

module _ {W E : Type 0} (O : OutputStream W) (o : Order) where
  -- a writer, after one more bit was queued
  abbrev with_bit : (s : BitWriter W E) → Bool → s.queued + 1 < 8 → BitWriter W E
  with_bit s b few = record {
    port = s.port;
    queue = put_number o s.queue s.queued (cond b 1 0) 1;
    queued = s.queued + 1;
    failed = false;
    order = s.order;
    few = few;
    small = put_below o s.queue s.queued (cond b 1 0) 1 s.small (bit-below b);
    empty = λ broken. absurd (false≢true broken);
  }

  with_bit-word : (s : BitWriter W E) (b : Bool)
      → word o (s.queued + 1) (put_number o s.queue s.queued (cond b 1 0) 1) ≡ word o s.queued s.queue ++ b ∷ []
  with_bit-word s b =
      put_word o s.queue s.queued (cond b 1 0) 1 s.small (bit-below b)
      ∙ ap (λ (w : List Bool). word o s.queued s.queue ++ w) (word-bit o b)

  with_bit-wrote : (s : BitWriter W E) (b : Bool) (few : s.queued + 1 < 8) → s.failed ≡ false
      → Writes {T = Unit {0}} (writer_sink O o) (bit b) s (Ok tt) (with_bit s b few)
  with_bit-wrote s b few sound =
      inner (writer_state O) (queue_sink (MayRefuseWrite O) o) (bit b) s (Ok tt) (with_bit s b few)
      (was_done (b ∷ []) tt sound refl tt refl (record {
        grown = record {
          bytes = [];
          grows = Appends-nil (writer_state O s).port.bytes;
          sent = omega arith;
          word = sym (with_bit-word s b);
        };
        sound = refl;
        refusals = refl;
        references = refl;
      }))

  -- bits after the queue: the last one has the effect of its call on every state that the others lead to
  pub bits-queued : (x : List Bool) (b : Bool) (s : BitWriter W E) (p : Port W) (before : List Bool)
      (r : Result (Unit {0}) Error) (t : BitWriter W E) → s.failed ≡ false → s.queued + length x < 8
      → s.port ≡ p → word o s.queued s.queue ++ x ≡ before
      → ((m : BitWriter W E) → m.failed ≡ false → m.port ≡ p → word o m.queued m.queue ≡ before
      → Writes {T = Unit {0}} (writer_sink O o) (bit b) m r t)
      → WritesAll (writer_sink O o) (bit_by_bit (x ++ b ∷ [])) s r t
  bits-queued [] b s p before r t sound few same is last =
      all_one (writer_sink O o) (bit b) s r t (last s sound same (sym (append-nil (word o s.queued s.queue)) ∙ is))
  bits-queued (c ∷ x) b s p before r t sound few same is last =
      let room : s.queued + 1 < 8 = omega (arith, few) in
      let m = with_bit s c room in
      all_more (writer_sink O o) (bit c) (bit_by_bit (x ++ b ∷ [])) s m r t (with_bit-wrote s c room sound)
      (bits-queued x b m p before r t refl (omega (arith, few)) same
      (ap (λ (w : List Bool). w ++ x) (with_bit-word s c) ∙ append_assoc (word o s.queued s.queue) (c ∷ []) x ∙ is)
      last)

  -- ---- bits up to the end of a byte

  module _ (s t : BitWriter W E) (byte : ℕ) (x : List Bool) (sound : s.failed ≡ false)
      (full : word o s.queued s.queue ++ x ≡ word o 8 byte) where
    full-length : s.queued + length x ≡ 8
    full-length =
        let all = ap (λ (w : List Bool). length w) full in
        let parts = length-append (word o s.queued s.queue) x in
        let queue = length-word o s.queued s.queue in
        let size = length-word o 8 byte in
        omega (arith, all, parts, queue, size)

    module _ (l : Last x) where
      abbrev before : List Bool
      before = word o s.queued s.queue ++ l.others

      before-length : length before ≡ 7
      before-length =
          let all = full-length in
          let parts = ap (λ (w : List Bool). length w) l.parts ∙ length-append l.others (l.last ∷ []) in
          let queue = length-word o s.queued s.queue in
          let sum = length-append (word o s.queued s.queue) l.others in
          omega (arith, all, parts, queue, sum)

      others-few : s.queued + length l.others < 8
      others-few =
          let size = before-length in
          let queue = length-word o s.queued s.queue in
          let sum = length-append (word o s.queued s.queue) l.others in
          omega (arith, size, queue, sum)

      before-full : before ++ l.last ∷ [] ≡ word o 8 byte
      before-full = append_assoc (word o s.queued s.queue) l.others (l.last ∷ [])
          ∙ ap (λ (w : List Bool). word o s.queued s.queue ++ w) (sym l.parts) ∙ full

      -- the byte was sent
      last-sent : Sent (target_state O s.port) (byte ∷ []) (target_state O t.port) → t.queued ≡ 0 → t.failed ≡ false
          → (m : BitWriter W E) → m.failed ≡ false → m.port ≡ s.port → word o m.queued m.queue ≡ before
          → Writes {T = Unit {0}} (writer_sink O o) (bit l.last) m (Ok tt) t
      last-sent h none fine m good same is =
          let sent = subst (λ (p : Port W). Sent (target_state O p) (byte ∷ []) (target_state O t.port)) (sym same) h in
          inner (writer_state O) (queue_sink (MayRefuseWrite O) o) (bit l.last) m (Ok tt) t
          (was_done (l.last ∷ []) tt good refl tt refl (record {
            grown = record {
              bytes = byte ∷ [];
              grows = sent.grows;
              sent = sent.sent;
              word = ap (λ (w : List Bool). w ++ l.last ∷ []) is ∙ before-full
                  ∙ sym (append-nil (word o 8 byte)) ∙ sym (append-nil (word o 8 byte ++ []))
                  ∙ ap (λ (w : List Bool). (word o 8 byte ++ []) ++ w) (sym (ap (λ (n : ℕ). word o n t.queue) none
                  ∙ word-none o t.queue));
            };
            sound = fine;
            refusals = sent.refusals;
            references = sent.references;
          }))

      -- the request failed
      last-refused : (error : Error) (p : PortState) → SendRefused (MayRefuseWrite O) error (target_state O s.port) 1 p
          → writer_state O t ≡ record { port = p; queued = 0; queue = 0; failed = true }
          → (m : BitWriter W E) → m.failed ≡ false → m.port ≡ s.port → word o m.queued m.queue ≡ before
          → Writes {T = Unit {0}} (writer_sink O o) (bit l.last) m (Err error) t
      last-refused error p h lost m good same is =
          let refused = subst (λ (q : Port W). SendRefused (MayRefuseWrite O) error (target_state O q) 1 p) (sym same)
          h in
          let v : ℕ = cond l.last 1 0 in
          let size = ap (λ (w : List Bool). length w) is in
          let queue = length-word o m.queued m.queue in
          let most : m.queued ≡ 7 = let seven = before-length in omega (arith, size, queue, seven) in
          let K = queue_sink (MayRefuseWrite O) o in
          let fault = pushed_fault (MayRefuseWrite O) o m.queued m.queue 1 v 1 error (target_state O m.port) p m.failed
          true 0 refused m.few (omega (arith, most)) (omega (arith, most)) refl in
          let one = subst (λ (w : List Bool). WriteRefused K (writer_state O m) w error
          (record { port = p; queued = 0; queue = 0; failed = true })) (word-bit o l.last) fault in
          inner (writer_state O) K (bit l.last) m (Err error) t
          (was_refused (l.last ∷ []) error good refl tt refl
          (subst (λ z. WriteRefused K (writer_state O m) (l.last ∷ []) error z) (sym lost) one))

      bits-filled : (r : Result (Unit {0}) Error)
          → ((m : BitWriter W E) → m.failed ≡ false → m.port ≡ s.port → word o m.queued m.queue ≡ before
          → Writes {T = Unit {0}} (writer_sink O o) (bit l.last) m r t)
          → WritesAll (writer_sink O o) (bit_by_bit x) s r t
      bits-filled r last = subst (λ (w : List Bool). WritesAll (writer_sink O o) (bit_by_bit w) s r t) (sym l.parts)
          (bits-queued l.others l.last s s.port before r t sound others-few refl refl last)

    some-left : 0 < length x
    some-left = let few = s.few in let all = full-length in omega (arith, few, all)

    pub bits-sent : Sent (target_state O s.port) (byte ∷ []) (target_state O t.port) → t.queued ≡ 0 → t.failed ≡ false
        → WritesAll (writer_sink O o) (bit_by_bit x) s (Ok tt) t
    bits-sent h none fine =
        let l = last-of x some-left in bits-filled l (Ok tt) (last-sent l h none fine)

    pub bits-refused : (error : Error) (p : PortState) (r : Result (Unit {0}) Error) → r ≡ Err error
        → SendRefused (MayRefuseWrite O) error (target_state O s.port) 1 p
        → writer_state O t ≡ record { port = p; queued = 0; queue = 0; failed = true }
        → WritesAll (writer_sink O o) (bit_by_bit x) s r t
    bits-refused error p r is h lost =
        let l = last-of x some-left in rw is (bits-filled l (Err error) (last-refused l error p h lost))

  -- ---- the last bits, which fill no byte

  module _ (s t : BitWriter W E) (x : List Bool) (sound : s.failed ≡ false) (same : t.port ≡ s.port)
      (fine : t.failed ≡ false) (is : word o s.queued s.queue ++ x ≡ word o t.queued t.queue) where
    kept-bit : (b : Bool) (m : BitWriter W E) → m.failed ≡ false → m.port ≡ s.port
        → word o m.queued m.queue ++ b ∷ [] ≡ word o t.queued t.queue
        → Writes {T = Unit {0}} (writer_sink O o) (bit b) m (Ok tt) t
    kept-bit b m good there more =
        let port : m.port ≡ t.port = there ∙ sym same in
        inner (writer_state O) (queue_sink (MayRefuseWrite O) o) (bit b) m (Ok tt) t
        (was_done (b ∷ []) tt good refl tt refl (record {
          grown = record {
            bytes = [];
            grows = subst (λ (p : Port W). Appends (target_state O m.port).bytes (target_state O p).bytes []) port
                (Appends-nil (target_state O m.port).bytes);
            sent = ap (λ (p : Port W). (target_state O p).sent) (sym port) ∙ omega arith;
            word = more;
          };
          sound = fine;
          refusals = ap (λ (p : Port W). (target_state O p).refusals) (sym port);
          references = ap (λ (p : Port W). (target_state O p).references) (sym port);
        }))

    pub nothing-kept : x ≡ [] → Appended (writer_sink O o) s [] t
    nothing-kept none = record {
      grown = record {
        bytes = [];
        grows = subst (λ (p : Port W). Appends (target_state O s.port).bytes (target_state O p).bytes []) (sym same)
            (Appends-nil (target_state O s.port).bytes);
        sent = ap (λ (p : Port W). (target_state O p).sent) same ∙ omega arith;
        word = ap (λ (w : List Bool). word o s.queued s.queue ++ w) (sym none) ∙ is;
      };
      sound = fine;
      refusals = ap (λ (p : Port W). (target_state O p).refusals) same;
      references = ap (λ (p : Port W). (target_state O p).references) same;
    }

    pub bits-kept : 0 < length x → WritesAll (writer_sink O o) (bit_by_bit x) s (Ok tt) t
    bits-kept some =
        let l = last-of x some in
        let q = word o s.queued s.queue in
        let sizes = ap (λ (w : List Bool). length w) is in
        let parts = length-append q x in
        let cut = ap (λ (w : List Bool). length w) l.parts ∙ length-append l.others (l.last ∷ []) in
        let before = length-word o s.queued s.queue in
        let after = length-word o t.queued t.queue in
        let few = t.few in
        let less : s.queued + length l.others < 8 = omega (arith, sizes, parts, cut, before, after, few) in
        subst (λ (w : List Bool). WritesAll (writer_sink O o) (bit_by_bit w) s (Ok tt) t) (sym l.parts)
        (bits-queued l.others l.last s s.port (q ++ l.others) (Ok tt) t sound less refl refl
        (λ m good there word_is. kept-bit l.last m good there
        (ap (λ (w : List Bool). w ++ l.last ∷ []) word_is ∙ append_assoc q l.others (l.last ∷ [])
        ∙ ap (λ (w : List Bool). q ++ w) (sym l.parts) ∙ is)))

  -- ---- byte after byte

  -- some bits of a code word were written, and the queue with the others is what is left of the number `all`
  pub record Progress (w : List Bool) (total all : ℕ) (old : BitWriter W E) (left : ℕ) (new : BitWriter W E) :
      Type 0 where
    pub gone : List Bool
    pub rest : List Bool
    pub parts : w ≡ gone ++ rest
    pub wrote : WritesAll (writer_sink O o) (bit_by_bit gone) old (Ok tt) new
    pub queue : word o new.queued new.queue ++ rest ≡ drop (total - left) (word o total all)
    pub sound : new.failed ≡ false
    pub within : left ≤ total

  module _ (w : List Bool) (total all : ℕ) (old : BitWriter W E) where
    pub progress-start : old.failed ≡ false → word o total all ≡ word o old.queued old.queue ++ w
        → Progress w total all old total old
    progress-start sound is = record {
      gone = [];
      rest = w;
      parts = refl;
      wrote = all_none (writer_sink O o) old;
      queue = sym is ∙ ap (λ (i : ℕ). drop i (word o total all)) (let none : 0 ≡ total - total = omega arith in none);
      sound = sound;
      within = omega arith;
    }

    module _ (left byte : ℕ) (s : BitWriter W E) (h : Progress w total all old left s) (full : 8 ≤ left)
        (cut : byte ≡ piece o total all (total - left) 8) where
      abbrev at : ℕ
      at = total - left

      abbrev missing : ℕ
      missing = 8 - s.queued

      -- the bits that fill the byte
      abbrev pub filling : List Bool
      filling = take missing h.rest

      pub filling-full : word o s.queued s.queue ++ filling ≡ word o 8 byte
      filling-full =
          let q = word o s.queued s.queue in
          let within = h.within in
          let few = s.few in
          let queue = length-word o s.queued s.queue in
          let sum : length q + missing ≡ 8 = omega (arith, queue, few) in
          sym (take-append-add q h.rest missing) ∙ ap (λ (i : ℕ). take i (q ++ h.rest)) sum ∙ ap (take 8) h.queue
          ∙ sym (piece-at o total all at 8 (omega (arith, within, full))) ∙ ap (word o 8) (sym cut)

      all-calls : bit_by_bit w ≡ bit_by_bit h.gone ++ (bit_by_bit filling ++ bit_by_bit (drop missing h.rest))
      all-calls =
          ap bit_by_bit (h.parts ∙ ap (λ (l : List Bool). h.gone ++ l) (sym (take-append-drop missing h.rest)))
          ∙ map-append bit h.gone (filling ++ drop missing h.rest)
          ∙ ap (λ es. bit_by_bit h.gone ++ es) (map-append bit filling (drop missing h.rest))

      pub progress-more : (t : BitWriter W E) → WritesAll (writer_sink O o) (bit_by_bit filling) s (Ok tt) t
          → t.queued ≡ 0 → t.failed ≡ false → Progress w total all old (left - 8) t
      progress-more t k none fine =
          let q = word o s.queued s.queue in
          let within = h.within in
          let few = s.few in
          let queue = length-word o s.queued s.queue in
          let sum : length q + missing ≡ 8 = omega (arith, queue, few) in
          let later : at + 8 ≡ total - (left - 8) = omega (arith, within, full) in
          record {
            gone = h.gone ++ filling;
            rest = drop missing h.rest;
            parts = h.parts ∙ ap (λ (l : List Bool). h.gone ++ l) (sym (take-append-drop missing h.rest))
                ∙ sym (append_assoc h.gone filling (drop missing h.rest));
            wrote = subst (λ es. WritesAll (writer_sink O o) es old (Ok tt) t) (sym (map-append bit h.gone filling))
                (all_append (writer_sink O o) (bit_by_bit h.gone) (bit_by_bit filling) old s (Ok tt) t h.wrote k);
            queue = ap (λ (l : List Bool). l ++ drop missing h.rest) (ap (λ (n : ℕ). word o n t.queue) none
                ∙ word-none o t.queue)
                ∙ sym (drop-append-add q h.rest missing) ∙ ap (λ (i : ℕ). drop i (q ++ h.rest)) sum
                ∙ ap (drop 8) h.queue ∙ drop-drop 8 at (word o total all)
                ∙ ap (λ (i : ℕ). drop i (word o total all)) later;
            sound = fine;
            within = omega (arith, within);
          }

      pub progress-stop : (r : Result (Unit {0}) Error) (d : Error) (t : BitWriter W E) → IsErrAnd r (λ y. y ≡ d)
          → WritesAll (writer_sink O o) (bit_by_bit filling) s (Err d) t → WritesAll (writer_sink O o) (bit_by_bit w) old r t
      progress-stop r d t is k =
          let K = writer_sink O o in
          subst (λ es. WritesAll K es old r t) (sym all-calls)
          (all_append K (bit_by_bit h.gone) (bit_by_bit filling ++ bit_by_bit (drop missing h.rest)) old s r t h.wrote
          (all_stop K (bit_by_bit filling) (bit_by_bit (drop missing h.rest)) s d r t (exit_is r is) k))

    -- the last bits are queued
    ends : (left : ℕ) (s t : BitWriter W E) (h : Progress w total all old left s) → 0 < length w → t.port ≡ s.port
        → t.failed ≡ false → (rest : List Bool) → w ≡ h.gone ++ rest
        → word o s.queued s.queue ++ rest ≡ word o t.queued t.queue
        → WritesAll (writer_sink O o) (bit_by_bit w) old (Ok tt) t
    ends left s t h some same fine [] parts is =
        let K = writer_sink O o in
        let gone : w ≡ h.gone = parts ∙ append-nil h.gone in
        let all_gone : 0 < length h.gone = subst (λ (x : List Bool). 0 < length x) gone some in
        subst (λ (x : List Bool). WritesAll K (bit_by_bit x) old (Ok tt) t) (sym gone)
        (wrote-same K h.gone old s t all_gone (nothing-kept s t [] h.sound same fine is refl) h.wrote)
    ends left s t h some same fine (b ∷ rest) parts is =
        let K = writer_sink O o in
        subst (λ es. WritesAll K es old (Ok tt) t) (sym (ap bit_by_bit parts ∙ map-append bit h.gone (b ∷ rest)))
        (all_append K (bit_by_bit h.gone) (bit_by_bit (b ∷ rest)) old s (Ok tt) t h.wrote
        (bits-kept s t (b ∷ rest) h.sound same fine is (omega arith)))

    pub progress-end : (left : ℕ) (s t : BitWriter W E) → 0 < length w → Progress w total all old left s → left < 8
        → t.port ≡ s.port → t.failed ≡ false → t.queued ≡ left → t.queue ≡ piece o total all (total - left) left
        → WritesAll (writer_sink O o) (bit_by_bit w) old (Ok tt) t
    progress-end left s t some h few same fine size cut =
        let at = total - left in
        let within = h.within in
        let rest_length : length (drop at (word o total all)) ≤ left =
        let d = length-drop at (word o total all) in
        let n = length-word o total all in omega (arith, d, n, within) in
        let is : word o s.queued s.queue ++ h.rest ≡ word o t.queued t.queue =
        h.queue ∙ sym (take_all left (drop at (word o total all)) rest_length)
        ∙ sym (piece-at o total all at left (omega (arith, within)))
        ∙ ap₂ (word o) (sym size) (sym cut) in
        ends left s t h some same fine h.rest h.parts is
