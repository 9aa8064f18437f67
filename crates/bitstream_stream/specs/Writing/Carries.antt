-- The bytes that a writer has sent, and the bits queued after them.
use Rattle.std.specs.Prelude.{◌≡◌, ℕ, ◌+◌, ◌<◌, Bool, true, Option, List, ◌++◌, length}
use Rattle.std.specs.Io.KnownBytes.{Appends}
use Rattle.bitstream_number.specs.Word.{Order, word, bits}
use Rattle.bitstream_order.specs.Port.{PortState}

-- a port, and the bits queued for it: the encoding of `queue` in `queued` bits
pub record WriterState : Type 0 where
  pub port : PortState
  pub queued : ℕ
  pub queue : ℕ
  pub failed : Bool

-- the same writer after a failed request: it has failed, and its queue is empty
abbrev pub failed_writer : WriterState → WriterState
failed_writer s = record s { queued = 0; queue = 0; failed = true }

-- whole bytes were sent, and the bits after them are queued
pub record Carries (o : Order) (a : WriterState) (x : List Bool) (b : WriterState) : Type 0 where
  pub bytes : List ℕ
  pub grows : Appends a.port.bytes b.port.bytes bytes
  pub sent : b.port.sent ≡ a.port.sent + length bytes
  pub word : word o a.queued a.queue ++ x ≡ bits o bytes ++ word o b.queued b.queue

-- the known contents of a stream after the bits x are written after the queued ones and the full bytes are sent
pub record Fills (o : Order) (a : WriterState) (x : List Bool) (known : Option (List ℕ)) : Type 0 where
  pub bytes : List ℕ
  pub grows : Appends a.port.bytes known bytes
  pub rest : List Bool
  pub few : length rest < 8
  pub word : word o a.queued a.queue ++ x ≡ bits o bytes ++ rest
