-- Writes to bytes in memory fail only for lack of room, and the bytes that are not written are unchanged.
use Rattle.std.proofs.Common.{◌≡◌, ◌+◌, ◌++◌, ℕ, List, drop, Some, ap, sym, ◌∙◌, refl, length-take-le}
use Rattle.std.proofs.lemmas.List.{drop-drop, take-append-drop}
use Rattle.bitstream_order.specs.Refusal.{MayRefuseWrite, AllLackRoom}
use Rattle.bitstream_order.specs.Streaming.SliceMut.{HoldsFirst, slice_capacity, slice_mut_stream, slice_name, slice_was, written_bytes}
use Rattle.bitstream_order.specs.declared.streams.slice_mut.SliceMut.{SliceMut}

pub slice_lacks_room : AllLackRoom (MayRefuseWrite slice_mut_stream)
slice_lacks_room refusal h = record {
  held = written_bytes h.old;
  most = slice_capacity h.old;
  told = h.before;
  room = h.capacity ∙ ap Some (sym h.old.len);
  few = h.refused.1;
}

-- the written bytes are the first ones, and the others are as they were
pub slice-holds : (s : SliceMut) → HoldsFirst (slice_name s) (slice_was s) s
slice-holds s = record {
  reached = refl;
  bytes = sym (take-append-drop s.written s.bytes.now) ∙ ap (λ (xs : List ℕ). written_bytes s ++ xs)
      (s.free ∙ ap (λ (n : ℕ). drop n (slice_was s)) (sym (length-take-le s.written s.bytes.now s.room)));
}

-- lists that agree from one place on agree from each later place on
pub drop-further : (xs ys : List ℕ) (i n : ℕ) → drop i xs ≡ drop i ys → drop (i + n) xs ≡ drop (i + n) ys
drop-further xs ys i n same = sym (drop-drop n i xs) ∙ ap (λ (zs : List ℕ). drop n zs) same ∙ drop-drop n i ys
