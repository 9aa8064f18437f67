use Rattle.std.proofs.Common.{rules, ◌≡◌, ◌∙◌, ◌+◌, refl, sym, ap}
use Rattle.bitstream_io.proofs.WordLemmas.{length-word}
use Rattle.bits_c.proofs.writer.append.Goals as goal

pub returns : goal.returns
returns g c =
    let same : c.from.result ≡ c.args.width = search rules in
    record {
      buffer = refl;
      bytes = c.put.ensures;
      at = ap (λ k. c.args.writer.now.at + k) (same ∙ sym (length-word g.O.Endianness.order c.args.width c.args.value));
    }
