-- Made by `./format --c` from ../network_messages/formats/icmp_message.fields: edit that file and make this one anew.
use Rattle.std.proofs.Common.{◌≡◌, ◌∙◌, ◌+◌, ◌++◌, ◌∷◌, [], refl, sym, arith, length-append}
use Rattle.bitstream_stream.proofs.Reading.BytesLemmas.{map_stops, reads-byte, reads-more, reads-none, stops-byte, stops-more, stops-none, stops-prefix}
use Rattle.network_messages_c.proofs.ListLemmas.{bytes_into, failed_ok, kept_begin}
use Rattle.network_messages_c.proofs.icmp_message.read_data.Goals as goal

pub returns-in_err-read_unsigned_var : goal.returns-in_err-read_unsigned_var
returns-in_err-read_unsigned_var g c = record {
  all = [];
  reads = bytes_into _ _ (map_stops _ c.from_residual.result c.from_residual.ensures.1
      (stops-prefix _ 0 _ _ _ _ (omega arith) (stops-none _ 8 _ _ _ c.in_err-read_unsigned_var.ensures.reads)));
  size = failed_ok _ c.from_residual.result c.from_residual.ensures.1;
  keeps = kept_begin _;
}

pub loop-place-init : goal.loop-place-init
loop-place-init g c = record {
  all = [];
  reads = reads-none _ 8 _ _ _ c.in_ok-read_unsigned_var.ensures.reads;
  size = refl;
  keeps = kept_begin _;
}

pub returns-in_err-item : goal.returns-in_err-item
returns-in_err-item g c =
    let o = g.R.BitRead.source.order in
    let was = c.loop-place.invariant in
    record {
      all = was.all;
      reads = bytes_into _ _ (map_stops _ c.from_residual-in_err-item.result c.from_residual-in_err-item.ensures.1
          (stops-more o c.loop-place.place 1 c.args.count _ _ _ _ _ (omega (arith, c.loop-place-test.true)) was.reads
          (stops-byte o _ _ _ c.in_err-item.ensures.reads)));
      size = failed_ok _ c.from_residual-in_err-item.result c.from_residual-in_err-item.ensures.1;
      keeps = was.keeps;
    }

pub loop-place-preserved : goal.loop-place-preserved
loop-place-preserved g c =
    let o = g.R.BitRead.source.order in
    let was = c.loop-place.invariant in
    record {
      all = was.all ++ c.in_ok-item.item ∷ [];
      reads = reads-more o c.loop-place.place 1 (c.loop-place.place + 1) was.all (c.in_ok-item.item ∷ []) _ _ _ _ refl refl
          was.reads (reads-byte o c.in_ok-item.item _ _ c.in_ok-item.ensures.reads);
      size = omega (arith, length-append was.all (c.in_ok-item.item ∷ []), was.size);
      keeps = c.keep_u8.ensures was.all _ was.size was.keeps;
    }

pub returns : goal.returns
returns g c =
    let all : c.loop-place.place ≡ c.args.count = omega (arith, c.loop-place-test.false, c.loop-place.auto.place-end) in
    let was = c.loop-place.invariant in
    record { all = was.all; reads = bytes_into _ _ (rw (← all) was.reads); size = λ _. was.size ∙ all; keeps = was.keeps }
