use Rattle.std.proofs.Common.{rules, arith, ◌≡◌, ◌+◌, length, take, refl, sym, ap, ◌∙◌, []}
use Rattle.std.proofs.lemmas.Slice.{take-put_mid}
use Rattle.bitstream_order.specs.Moving.Pieces.{pieces}
use Rattle.bitstream_stream.specs.Reading.Reader.{requests_made}
use Rattle.bitstream_stream.proofs.Reading.BytesLemmas.{bytes-nothing, reads-more, stops-more, map_stops}
use Rattle.bitstream_stream.proofs.PieceCounts.{reaches-none, pieces-all}
use Rattle.bitstream_stream.proofs.read.reader.BitReader.fetch_pieces.Goals as goal

pub loop-at-init : goal.loop-at-init
loop-at-init g c = (
  0,
  record {
    len = refl;
    within = omega arith;
    reads = bytes-nothing g.E.Endianness.order [] _ c.requires.fine refl;
    fine = c.requires.fine;
    queued = refl;
    requests = omega arith;
    reaches = reaches-none c.args.most (length c.args.buf.now) c.requires.some;
  },
)

pub returns-in_err-fetch_bytes-clause-reads : goal.returns-in_err-fetch_bytes-clause-reads
returns-in_err-fetch_bytes-clause-reads g c =
    let inv = c.loop-at.invariant.1 in
    let len : length c.fetch_bytes.new.buf ≡ c.min.result = search rules in
    map_stops _ c.from_residual.result c.from_residual.ensures.1
    (stops-more g.E.Endianness.order c.loop-at.at _ _ _ _ _ _ _ (omega (
      arith,
      len,
      c.fetch_bytes.auto.buf,
      inv.len,
      c.min.ensures,
      inv.within,
    )) inv.reads c.in_err-fetch_bytes.ensures.reads)

pub loop-at-preserved : goal.loop-at-preserved
loop-at-preserved g c =
    let inv = c.loop-at.invariant.1 in
    let at = c.loop-at.at in
    let buf = c.loop-at.buf in
    let part = c.fetch_bytes.new.buf in
    let end = at + c.min.result in
    let len : length part ≡ c.min.result = search rules in
    let sum = ap (λ n. at + n) (sym c.fetch_bytes.auto.buf ∙ len) in (
      c.loop-at.invariant.0 + 1,
      record {
        len = search rules;
        within = search rules;
        reads = reads-more g.E.Endianness.order at _ end (take at buf) part _ _ _ _ sum
            (take-put_mid at _ buf part end (ap (λ n. at + n) (sym len)) inv.within) inv.reads
            c.in_ok-fetch_bytes.ensures.reads;
        fine = c.in_ok-fetch_bytes.ensures.fine;
        queued = c.in_ok-fetch_bytes.ensures.queued ∙ inv.queued;
        requests = search rules;
        reaches = search rules;
      },
    )

pub returns-clause-asks : goal.returns-clause-asks
returns-clause-asks g c =
    let inv = c.loop-at.invariant.1 in
    let queued = c.args.self.now.queued in
    let all = pieces-all c.args.most queued c.loop-at.invariant.0 (length c.loop-at.buf) c.loop-at.at
    (λ none. let some = c.requires.queued in omega (arith, none, some)) c.loop-at-test.false inv.within
    inv.reaches in
    inv.requests ∙ ap (λ n. requests_made c.args.self.now + n) (sym all ∙ ap (pieces c.args.most queued) inv.len)
