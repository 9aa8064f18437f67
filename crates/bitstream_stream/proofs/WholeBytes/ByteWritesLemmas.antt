-- How writes of whole bytes compose.
use Rattle.std.proofs.Common.{◌≡◌, ℕ, ◌+◌, ◌-◌, ◌<◌, ◌≤◌, List, [], ◌∷◌, ◌++◌, append_assoc, length, take, replicate, None, Result, Ok, Err, refl, sym, ap, ap₂, ◌∙◌, subst, length-append, arith}
use Rattle.std.proofs.lemmas.List.{take-replicate, replicate-append-replicate}
use Rattle.std.proofs.KnownBytes.{Appends-nil, Appends-trans}
use Rattle.std.specs.Borrow.{GName, MutBor}
use Rattle.std.specs.Io.KnownBytes.{Appends}
use Rattle.bitstream_order.specs.Reference.{by_name, capacity_of}
use Rattle.bitstream_count.specs.declared.error.Error.{Error}
use Rattle.bitstream_number.specs.Word.{Order}
use Rattle.bitstream_order.specs.Port.{Sends}
use Rattle.bitstream_order.specs.Refusal.{MayRefuseWrite}
use Rattle.bitstream_order.specs.Streams.{OutputStream}
use Rattle.bitstream_stream.specs.Writing.Sink.{IsPastLimit}
use Rattle.bitstream_stream.specs.WholeBytes.ByteSink.{ByteSink, BytesAppended, ByteWriteRefused, ByteWrites, past_limit, was_refused, was_done, lent_byte_sink}
use Rattle.bitstream_stream.specs.WholeBytes.ByteWriter.{byte_writer_state, byte_writer_sink}
use Rattle.bitstream_stream.specs.declared.bytes.byte_writer.ByteWriter.{ByteWriter}

module _ {S : Type 0} (K : ByteSink S) where
  pub none_appended : (s : S) → BytesAppended K s [] s
  none_appended s = record { grown = K.appends_nil s; refusals = refl; references = refl }

  pub more_appended : (x y : List ℕ) (s t u : S) → BytesAppended K s x t → BytesAppended K t y u
      → BytesAppended K s (x ++ y) u
  more_appended x y s t u h k = record {
    grown = K.appends_trans s t u x y h.grown k.grown;
    refusals = k.refusals
        ∙ h.refusals;
    references = k.references ∙ h.references;
  }

  pub was_written : {T : Type 0} (x : List ℕ) (s : S) (done : T) (t : S) → ByteWrites K x s (Ok done) t
      → BytesAppended K s x t
  was_written x s done t (past_limit b r h) = cc
  was_written x s done t (was_refused e w r h) = cc
  was_written x s done t (was_done d w r h) = h

  pub was_stopped : {T : Type 0} (x : List ℕ) (s : S) (e : Error) (t : S) → K.limit ≡ None
      → ByteWrites {T = T} K x s (Err e) t → ByteWriteRefused K s x e t
  was_stopped x s e t none (past_limit b r h) = absurd (subst (λ l. IsPastLimit l (K.len s + length x)) none b)
  was_stopped {T = T} x s e t none (was_refused d w r h) = let same : d ≡ e = cc in
      subst (λ y. ByteWriteRefused K s x y t) same h
  was_stopped x s e t none (was_done d w r h) = cc

  -- bytes that went before, with others after them
  pub stopped_behind : (x y z : List ℕ) (e : Error) (s t u : S) → BytesAppended K s x t → ByteWriteRefused K t y e u
      → ByteWriteRefused K s (x ++ (y ++ z)) e u
  stopped_behind x y z e s t u h k =
      record {
        refusal = k.refusal;
        allowed = k.allowed;
        answer = k.answer;
        prefix = x ++ k.prefix;
        back = k.back ++ z;
        parts = ap (λ l. x ++ (l ++ z)) k.parts ∙ ap (λ l. x ++ l) (append_assoc k.prefix k.back z)
            ∙ sym (append_assoc x k.prefix (k.back ++ z));
        some = let some = k.some in omega (arith, length-append k.back z);
        asked = let asked = k.asked in omega (arith, length-append k.back z);
        capacity = k.capacity ∙ ap capacity_of h.references;
        before = Appends-trans (K.contents s) (K.contents t) k.refusal.before x k.prefix (K.grows s t x h.grown)
            k.before;
        after = k.after;
        sent = let far = K.appends_len s t x h.grown in let sent = k.sent in omega (arith, length-append x k.prefix);
        refusals = k.refusals ∙ ap (λ l. k.refusal ∷ l) h.refusals;
        references = k.references ∙ h.references;
      }

  -- zeros, a piece at a time
  pub zeros_more : {T : Type 0} (k n size : ℕ) (s t u : S) (done : T) → n ≤ size → BytesAppended K s (replicate k 0) t
      → ByteWrites K (take n (replicate size 0)) t (Ok done) u → BytesAppended K s (replicate (k + n) 0) u
  zeros_more k n size s t u done le h r =
      let zeros : BytesAppended K t (replicate n 0) u =
      subst (λ x. BytesAppended K t x u) (take-replicate n size 0 le)
      (was_written (take n (replicate size 0)) t done u r) in
      subst (λ x. BytesAppended K s x u) (replicate-append-replicate k n 0)
      (more_appended (replicate k 0) (replicate n 0) s t u h zeros)

  pub zeros_stopped : {T : Type 0} (k n size all : ℕ) (e : Error) (s t u : S) → n ≤ size → k + n ≤ all → K.limit ≡ None
      → BytesAppended K s (replicate k 0) t → ByteWrites {T = T} K (take n (replicate size 0)) t (Err e) u
      → ByteWriteRefused K s (replicate all 0) e u
  zeros_stopped k n size all e s t u le room none h r =
      let few : ByteWriteRefused K t (replicate n 0) e u =
      subst (λ x. ByteWriteRefused K t x e u) (take-replicate n size 0 le)
      (was_stopped (take n (replicate size 0)) t e u none r) in
      let m = all - (k + n) in
      let sum : k + (n + m) ≡ all = omega arith in
      let zeros : replicate {A = ℕ} k 0 ++ (replicate n 0 ++ replicate m 0) ≡ replicate all 0 =
      ap (λ (l : List ℕ). replicate k 0 ++ l) (replicate-append-replicate n m 0)
      ∙ replicate-append-replicate k (n + m) 0 ∙ ap (λ (i : ℕ). replicate i 0) sum in
      subst (λ x. ByteWriteRefused K s x e u) zeros (stopped_behind (replicate k 0) (replicate n 0) (replicate m 0) e s
      t u h few)

-- a request to send some bytes is a write of them
pub bytes_sent : {W E : Type 0} (O : OutputStream W) (o : Order) (x : List ℕ) (a b : ByteWriter W E)
    (r : Result (Unit {0}) Error) → 0 < length x
    → Sends (MayRefuseWrite O) (byte_writer_state O a) x r
    (byte_writer_state O b)
    → ByteWrites (byte_writer_sink O o) x a r b
bytes_sent O o x a b (Ok done) some h =
    was_done done tt refl (record {
      grown = record { grows = h.grows; sent = h.sent };
      refusals = h.refusals;
      references = h.references;
    })
bytes_sent O o x a b (Err e) some h = was_refused e tt refl (record {
  refusal = h.refusal;
  allowed = h.allowed;
  answer = h.answer;
  prefix = [];
  back = x;
  parts = refl;
  some = some;
  asked = let same = h.wanted in omega arith;
  capacity = h.capacity;
  before = subst (λ l. Appends (byte_writer_state O a).bytes l []) (sym h.before)
      (Appends-nil (byte_writer_state O a).bytes);
  after = h.after;
  sent = let same = h.sent in omega arith;
  refusals = h.refusals;
  references = h.references;
})

-- a call through a `&mut`
module _ {S : Type 0} (K : ByteSink S) (a b : MutBor S) (same : b.ghost_name ≡ a.ghost_name) where
  appended_lent : (x : List ℕ) → BytesAppended K a.now x b.now → BytesAppended (lent_byte_sink K) a x b
  appended_lent x h = record {
    grown = h.grown;
    refusals = h.refusals;
    references =
        ap₂ (λ (n : GName) l. by_name n ∷ l) same h.references;
  }

  pub writes_lent : {T : Type 0} (x : List ℕ) (r : Result T Error) → ByteWrites K x a.now r b.now
      → ByteWrites (lent_byte_sink K) x a r b
  writes_lent x r (past_limit p q h) = past_limit p q (appended_lent [] h)
  writes_lent x r (was_refused e w q h) = was_refused e w q (record {
    refusal = h.refusal;
    allowed = h.allowed;
    answer = h.answer;
    prefix = h.prefix;
    back = h.back;
    parts = h.parts;
    some = h.some;
    asked = h.asked;
    capacity = h.capacity;
    before = h.before;
    after = h.after;
    sent = h.sent;
    refusals = h.refusals;
    references = ap₂ (λ (n : GName) l. by_name n ∷ l) same h.references;
  })
  writes_lent x r (was_done d w q h) = was_done d w q (appended_lent x h)
