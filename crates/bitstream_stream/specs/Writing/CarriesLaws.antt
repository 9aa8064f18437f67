-- The laws by which two consecutive writes send and queue the bits of both.
-- These are lemmas: a sink is a record with its laws in it, and specs take nothing from the proofs of their crate.
use Rattle.std.specs.Prelude.{◌≡◌, ℕ, ◌+◌, ◌*◌, Bool, Option, List, [], ◌++◌, length}
use Rattle.std.proofs.Common.{sym, ap, ◌∙◌, add_assoc, add-zero, append-nil, append_assoc, length-append}
use Rattle.std.proofs.KnownBytes.{Appends-nil, Appends-trans}
use Rattle.bitstream_number.specs.Word.{Order, word, bits}
use Rattle.bitstream_number.proofs.WordLemmas.{bits-append}
use Rattle.bitstream_order.proofs.Moving.SendLemmas.{sent_bits}
use Rattle.bitstream_stream.specs.Writing.Carries.{WriterState, Carries, Fills}

module _ (o : Order) where
  pub Carries-nil : (a : WriterState) → Carries o a [] a
  Carries-nil a = record {
    bytes = [];
    grows = Appends-nil a.port.bytes;
    sent = sym (add-zero a.port.sent);
    word =
        append-nil (word o a.queued a.queue);
  }

  -- the bits of two encodings, from the bytes of the first and the bytes of both
  words-trans : (u x v y w : List Bool) (g h : List ℕ) → u ++ x ≡ bits o g ++ v → v ++ y ≡ bits o h ++ w → u ++ (x ++ y)
      ≡ bits o (g ++ h) ++ w
  words-trans u x v y w g h p q =
      sym (append_assoc u x y) ∙ ap (λ (l : List Bool). l ++ y) p ∙ append_assoc (bits o g) v y
      ∙ ap (λ (l : List Bool). bits o g ++ l) q
      ∙ sym (append_assoc (bits o g) (bits o h) w) ∙ ap (λ (l : List Bool). l ++ w) (sym (bits-append o g h))

  pub Carries-trans : (a b c : WriterState) (x y : List Bool) → Carries o a x b → Carries o b y c
      → Carries o a (x ++ y) c
  Carries-trans a b c x y p q = record {
    bytes = p.bytes ++ q.bytes;
    grows = Appends-trans a.port.bytes b.port.bytes c.port.bytes p.bytes q.bytes p.grows q.grows;
    sent = q.sent ∙ ap (λ (n : ℕ). n + length q.bytes) p.sent ∙ add_assoc a.port.sent (length p.bytes) (length q.bytes)
        ∙ ap (λ (n : ℕ). a.port.sent + n) (sym (length-append p.bytes q.bytes));
    word = words-trans (word o a.queued a.queue) x (word o b.queued b.queue) y (word o c.queued c.queue) p.bytes q.bytes
        p.word q.word;
  }

  pub Fills-behind : (a b : WriterState) (x y : List Bool) (known : Option (List ℕ)) → Carries o a x b
      → Fills o b y known → Fills o a (x ++ y) known
  Fills-behind a b x y known p q = record {
    bytes = p.bytes ++ q.bytes;
    grows = Appends-trans a.port.bytes b.port.bytes known p.bytes q.bytes p.grows q.grows;
    rest = q.rest;
    few = q.few;
    word = words-trans (word o a.queued a.queue) x (word o b.queued b.queue) y q.rest p.bytes q.bytes p.word q.word;
  }

  pub Carries-len : (a b : WriterState) (x : List Bool) → Carries o a x b → 8 * b.port.sent + b.queued
      ≡ 8 * a.port.sent + a.queued + length x
  Carries-len a b x p = sent_bits o a.queued a.queue b.queued b.queue x p.bytes a.port.sent b.port.sent p.sent p.word
