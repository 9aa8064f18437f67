-- Made by `./format --c`, which prints the same for each crate: edit tools/describing/c/shared.py.
-- What the result of a pack says, and what a buffer holds after a write to its first bytes.
use Rattle.std.specs.Prelude.{◌≡◌, ◌≢◌, ◌<◌, ◌≤◌, ◌↔◌, ◌+◌, ◌/◌, ◌++◌, ◌∷◌, [], ℕ, Bool, List, pos, length, take, drop}
use Rattle.bitstream_io.specs.Callers.{Encoder, Order, align, bits, write_sequence}
use Rattle.network_messages_c.specs.declared.shared.Packed.{Packed}

-- the number of bytes of calls, with zeros up to a whole byte
abbrev pub packed_bytes : List Encoder → ℕ
packed_bytes es = (length (write_sequence es 0) + 7) / 8

-- the first bytes are the bits of the calls, and zeros up to a whole byte; the bytes after them are as before
pub record BeginsWith (o : Order) (es : List Encoder) (old new : List ℕ) : Type 0 where
  pub bytes : bits o (take (packed_bytes es) new) ≡ write_sequence (es ++ align ∷ []) 0
  pub after : drop (packed_bytes es) new ≡ drop (packed_bytes es) old

-- A pack of `size` bytes. It succeeds if, and only if, the fields fit and there is room for them. Then the first bytes
-- of the buffer are the fields' bits, and the bytes after them are as before. After an error all bytes are as before.
pub record PacksInto (fits : Type 0) (o : Order) (size : ℕ) (held : List Bool) (old : List ℕ) (r : Packed)
    (new : List ℕ) : Type 0 where
  pub ok : (r.status ≡ pos 0) ↔ (fits × (size ≤ length old))
  pub no_room : (r.status ≡ pos 2) ↔ (fits × (length old < size))
  pub misfit : (r.status ≡ pos 3) ↔ (fits → ⊥)
  pub written : r.status ≡ pos 0 → r.written ≡ size
  pub bytes : r.status ≡ pos 0 → bits o (take size new) ≡ held
  pub after : r.status ≡ pos 0 → drop size new ≡ drop size old
  pub unchanged : r.status ≢ pos 0 → (r.written ≡ 0) × (new ≡ old)
