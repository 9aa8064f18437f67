-- Bytes after the queue of a writer, and zeros.
use Rattle.std.proofs.Common.{◌≡◌, ℕ, zero, suc, ◌+◌, ◌-◌, ◌*◌, ◌%◌, ◌^◌, ◌<◌, ◌≤◌, Bool, true, false, List, [], ◌∷◌, ◌++◌, length, take, drop, replicate, reverse, Result, Ok, Err, refl, sym, ap, ◌∙◌, subst, arith, add-one}
use mathlib.Core.List.{reverse-cons}
use Rattle.bitstream_number.specs.Word.{Order, High, Low, word, number, bits, bytes}
use Rattle.std.specs.Result.{IsErrAnd}
use lib.Seq.{take-add}
use Rattle.bitstream_number.proofs.WordLemmas.{bits-append, bits-bytes, length-bits, word-number}
use Rattle.bitstream_count.specs.declared.error.Error.{Error}
use Rattle.bitstream_order.proofs.WindowLemmas.{digits-none}
use Rattle.bitstream_order.specs.Port.{PortState, Sent, SendRefused}
use Rattle.bitstream_order.specs.Refusal.{Refusal}
use Rattle.bitstream_order.specs.Moving.Shift.{Shifts}
use Rattle.bitstream_stream.specs.Writing.Carries.{WriterState}
use Rattle.bitstream_stream.specs.Writing.Sink.{Appended, WriteRefused, Writes}
use Rattle.bitstream_stream.specs.Writing.Writer.{queue_sink, Pushes}
use Rattle.bitstream_stream.specs.Alignment.{to_boundary}
use Rattle.bitstream_stream.specs.Writing.WriteTable.{align, buffer, unsigned}
use Rattle.bitstream_stream.proofs.Writing.SinkParts.{WriteRefused-behind, WriteRefused-within, WriteRefused-longer}
pub use Rattle.bitstream_stream.proofs.Writing.SinkParts.{appended_none, appended_more}
use Rattle.bitstream_stream.proofs.Writing.WriteLemmas.{unsigned-fits}
use Rattle.bitstream_stream.proofs.Shared.{replicate-more}
use Rattle.std.proofs.lemmas.List.{replicate-append-replicate, take-append-drop, take-replicate}
use Rattle.bitstream_stream.proofs.Writing.WriterLemmas.{pushed_fault, pushes_writes}

-- ---- one request

-- bytes that went, which the bits written after the queue filled
pub sent_bytes : (may : Refusal → Type 0) (o : Order) (queued queue left : ℕ) (xs ys : List ℕ)
    (p r : PortState) (old new : Bool) → Shifts o queued queue (bits o xs) (bits o ys) left → Sent p ys r → new ≡ false
    → Appended (queue_sink may o) (record { port = p; queued = queued; queue = queue; failed = old }) (bits o xs)
    (record { port = r; queued = queued; queue = left; failed = new })
sent_bytes may o queued queue left xs ys p r old new shifted h sound =
    record {
      grown = record { bytes = ys; grows = h.grows; sent = h.sent; word = shifted };
      sound = sound;
      refusals =
          h.refusals;
      references = h.references;
    }

pub bytes_fault : (may : Refusal → Type 0) (o : Order) (queued queue : ℕ) (xs : List ℕ) (error : Error) (k : ℕ)
    (p r : PortState) (old new : Bool) (q : ℕ) → SendRefused may error p k r → queued < 8 → 1 ≤ length xs → k ≤ length xs → new ≡ true
    → WriteRefused (queue_sink may o) (record { port = p; queued = queued; queue = queue; failed = old }) (bits o xs)
    error (record { port = r; queued = 0; queue = q; failed = new })
bytes_fault may o queued queue xs error k p r old new q h few some asked broken =
    let n = length (bits o xs) in
    let v = number o (bits o xs) in
    let size : n ≡ 8 * length xs = length-bits o xs in
    subst (λ w. WriteRefused (queue_sink may o) (record { port = p; queued = queued; queue = queue; failed = old }) w
    error (record { port = r; queued = 0; queue = q; failed = new })) (word-number o (bits o xs))
    (pushed_fault may o queued queue n v k error p r old new q h few (omega arith) (omega arith) broken)

-- ---- several

-- a part of some bytes after the parts before it
pub appended_part : (may : Refusal → Type 0) (o : Order) (s t z : WriterState) (at n k : ℕ) (xs part : List ℕ) → k ≡ n
    → part ≡ take k (drop at xs) → Appended (queue_sink may o) s (bits o (take at xs)) t
    → Appended (queue_sink may o) t (bits o part) z
    → Appended (queue_sink may o) s (bits o (take (at + n) xs)) z
appended_part may o s t z at n k xs part same is h more =
    let all : take at xs ++ part ≡ take (at + n) xs = ap (λ l. take at xs ++ l) (is
    ∙ ap (λ j. take j (drop at xs)) same) ∙ sym (take-add at n xs) in
    subst (λ x. Appended (queue_sink may o) s x z) (sym (bits-append o (take at xs) part)
    ∙ ap (bits o) all) (appended_more (queue_sink may o) s t z (bits o (take at xs)) (bits o part) h more)

-- the write of a part of some bytes failed, after the parts before it
pub pushes_stop : (may : Refusal → Type 0) (o : Order) (s t z : WriterState) (at k : ℕ) (xs part : List ℕ)
    (error : Error) (r : Result (Unit {0}) Error) → IsErrAnd r (λ e. e ≡ error) → part ≡ take k (drop at xs)
    → Appended (queue_sink may o) s (bits o (take at xs)) t → WriteRefused (queue_sink may o) t (bits o part) error z
    → Pushes may o (bits o xs) s r z
pushes_stop may o s t z at k xs part error (Ok done) e is h f = absurd e
pushes_stop may o s t z at k xs part error (Err x) e is h f =
    let rest = drop k (drop at xs) in
    let cut : part ++ rest ≡ drop at xs = ap (λ (l : List ℕ). l ++ rest) is ∙ take-append-drop k (drop at xs) in
    let all : bits o xs ≡ bits o (take at xs) ++ (bits o part ++ bits o rest) =
    ap (bits o) (sym (take-append-drop at xs)) ∙ bits-append o (take at xs) (drop at xs)
    ∙ ap (λ (l : List Bool). bits o (take at xs) ++ l) (ap (bits o) (sym cut) ∙ bits-append o part rest) in
    rw e (WriteRefused-within (queue_sink may o) s t z error (bits o (take at xs)) (bits o part) (bits o rest)
    (bits o xs) all h.grown h.refusals h.references f)

-- ---- zeros

pub reverse-replicate : (n : ℕ) (b : Bool) → reverse (replicate n b) ≡ replicate n b
reverse-replicate zero b = refl
reverse-replicate (suc n) b = reverse-cons b (replicate n b) ∙ ap (λ l. l ++ b ∷ []) (reverse-replicate n b)
    ∙ sym (replicate-more n b) ∙ ap (λ (k : ℕ). replicate k b) (add-one n)

pub word-zeros : (o : Order) (n : ℕ) → word o n 0 ≡ replicate n false
word-zeros High n = digits-none n
word-zeros Low n = ap reverse (digits-none n) ∙ reverse-replicate n false

pub zeros-split : (a b n : ℕ) → a + b ≡ n → replicate n false ≡ replicate a false ++ replicate b false
zeros-split a b n sum = ap (λ (k : ℕ). replicate k false) (sym sum) ∙ sym (replicate-append-replicate a b false)

-- the bits of bytes of zeros
pub bits-zeros : (o : Order) (n : ℕ) → bits o (replicate n 0) ≡ replicate (8 * n) false
bits-zeros o zero = refl
bits-zeros o (suc n) = rw (word-zeros o 8, bits-zeros o n) (sym (zeros-split 8 (8 * n) (8 * suc n) (omega arith)))

module _ (may : Refusal → Type 0) (o : Order) where
  -- a number 0 of n bits is n zeros
  pub pushes_zeros : (n : ℕ) (s : WriterState) (r : Result (Unit {0}) Error) (t : WriterState)
      → Pushes may o (word o n 0) s r t → Pushes may o (replicate n false) s r t
  pushes_zeros n s r t h = subst (λ (w : List Bool). Pushes may o w s r t) (word-zeros o n) h

  -- zeros after zeros
  pub zeros-behind : (a b n : ℕ) (s t z : WriterState) (r : Result (Unit {0}) Error) → a + b ≡ n
      → Appended (queue_sink may o) s (replicate a false) t → Pushes may o (replicate b false) t r z
      → Pushes may o (replicate n false) s r z
  zeros-behind a b n s t z (Ok done) sum h k = rw (zeros-split a b n sum)
      (appended_more (queue_sink may o) s t z (replicate a false) (replicate b false) h k)
  zeros-behind a b n s t z (Err x) sum h k = rw (zeros-split a b n sum)
      (WriteRefused-behind (queue_sink may o) s t z x (replicate a false) (replicate b false) h k)

  -- a piece of bytes of zeros after others
  pub zeros-piece : (a n size b : ℕ) (s t z : WriterState) (r : Result (Unit {0}) Error) → n ≤ size → a + n ≡ b
      → Appended (queue_sink may o) s (replicate (8 * a) false) t
      → Pushes may o (bits o (take n (replicate size 0))) t r z
      → Pushes may o (replicate (8 * b) false) s r z
  zeros-piece a n size b s t z r le sum h k =
      zeros-behind (8 * a) (8 * n) (8 * b) s t z r (omega arith) h
      (subst (λ (w : List Bool). Pushes may o w t r z) (ap (bits o) (take-replicate n size 0 le)
      ∙ bits-zeros o n) k)

  pub zeros-all : (a b : ℕ) (s t : WriterState) → a ≡ b → Appended (queue_sink may o) s (replicate (8 * a) false) t
      → Appended (queue_sink may o) s (replicate (8 * b) false) t
  zeros-all a b s t same h = subst (λ (n : ℕ). Appended (queue_sink may o) s (replicate (8 * n) false) t) same h

  -- a failed request before all zeros went
  pub zeros-stop : (a n : ℕ) (x : Error) (s t : WriterState) (r : Result (Unit {0}) Error) → IsErrAnd r (λ e. e ≡ x)
      → a ≤ n → WriteRefused (queue_sink may o) s (replicate a false) x t → Pushes may o (replicate n false) s r t
  zeros-stop a n x s t (Ok done) e le h = absurd e
  zeros-stop a n x s t (Err y) e le h = rw (e, zeros-split a (n - a) n (omega arith))
      (WriteRefused-longer (queue_sink may o) s t x (replicate a false) (replicate (n - a) false) h)

  -- a number 0 of as many bits as are missing in the queue's byte is an alignment
  pub pushes_align : (n : ℕ) (s : WriterState) (r : Result (Unit {0}) Error) (t : WriterState) → n ≡ (8 - s.queued) % 8
      → s.queued < 8 → s.failed ≡ false → Pushes may o (word o n 0) s r t
      → Writes (queue_sink may o) align s r t
  pushes_align n s r t is few sound h =
      let same : to_boundary (8 * s.port.sent + s.queued) ≡ n = omega arith in
      let entry : align (8 * s.port.sent + s.queued) ≡ Ok (replicate n false) =
      ap (λ (k : ℕ). Ok (replicate k false)) same in
      pushes_writes may o (replicate n false) align s r t sound entry (pushes_zeros n s r t h)

-- ---- numbers

-- the bytes of a number are written as its encoding
pub buffer-number : (o : Order) (n v len : ℕ) → v < 2 ^ (8 * n) → buffer o (bytes o n v) len
    ≡ unsigned o (8 * n) (8 * n) v len
buffer-number o n v len small = ap Ok (bits-bytes o n v)
    ∙ sym (unsigned-fits o (8 * n) (8 * n) v len (omega arith) small)
