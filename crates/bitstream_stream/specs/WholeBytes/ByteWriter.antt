-- The meaning of the states of a `ByteWriter`. A sink of bytes is a record with its laws in it: so lemmas are
-- imported.
use Rattle.std.specs.Prelude.{◌≡◌, ℕ, ◌+◌, List, [], ◌++◌, length, None}
use Rattle.std.specs.Io.KnownBytes.{Appends}
use Rattle.std.proofs.Common.{sym, ap, ◌∙◌, add_assoc, add-zero, length-append}
use Rattle.std.proofs.KnownBytes.{Appends-nil, Appends-trans}
use Rattle.bitstream_number.specs.Word.{Order}
use Rattle.bitstream_order.specs.Port.{PortState, target_state}
use Rattle.bitstream_order.specs.Refusal.{MayRefuseWrite}
use Rattle.bitstream_order.specs.Streams.{OutputStream}
use Rattle.bitstream_stream.specs.declared.bytes.byte_writer.ByteWriter.{ByteWriter}
use Rattle.bitstream_stream.specs.WholeBytes.ByteSink.{ByteSink}

-- these bytes were sent
pub record SentBytes (old : PortState) (bytes : List ℕ) (new : PortState) : Type 0 where
  pub grows : Appends old.bytes new.bytes bytes
  pub sent : new.sent ≡ old.sent + length bytes

pub SentBytes-nil : (s : PortState) → SentBytes s [] s
SentBytes-nil s = record { grows = Appends-nil s.bytes; sent = sym (add-zero s.sent) }

pub SentBytes-trans : (s t u : PortState) (x y : List ℕ) → SentBytes s x t → SentBytes t y u → SentBytes s (x ++ y) u
SentBytes-trans s t u x y p q = record {
  grows = Appends-trans s.bytes t.bytes u.bytes x y p.grows q.grows;
  sent = q.sent ∙ ap (λ (n : ℕ). n + length y) p.sent ∙ add_assoc s.sent (length x) (length y)
      ∙ ap (λ (n : ℕ). s.sent + n) (sym (length-append x y));
}

-- a writer, from what is known of its stream
abbrev pub byte_writer_state : {W E : Type 0} → OutputStream W → ByteWriter W E → PortState
byte_writer_state O w = target_state O w.port

-- a writer as a sink of bytes
abbrev pub byte_writer_sink : {W E : Type 0} → OutputStream W → Order → ByteSink (ByteWriter W E)
byte_writer_sink {W} {E} O o =
    let state : ByteWriter W E → PortState = byte_writer_state O in
    record {
      order = o;
      appends = λ a x b. SentBytes (state a) x (state b);
      contents = λ a. (state a).bytes;
      len = λ a. (state a).sent;
      limit = None;
      refusals = λ a. (state a).refusals;
      may = MayRefuseWrite O;
      references = λ a. (state a).references;
      appends_nil = λ a. SentBytes-nil (state a);
      appends_trans = λ a b c x y p q. SentBytes-trans (state a) (state b) (state c) x y p q;
      grows = λ a b x p. p.grows;
      within = λ _. tt;
      appends_len = λ a b x p. p.sent;
    }
