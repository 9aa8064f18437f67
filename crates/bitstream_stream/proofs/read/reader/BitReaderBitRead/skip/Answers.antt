use Rattle.std.proofs.Common.{rules, ◌+◌, ◌-◌, ◌*◌, ◌/◌, ◌%◌, Ok, Err, refl, arith}
use Rattle.bitstream_stream.proofs.Reading.BytesLemmas.{skips, skips-stop, skips-more, skips-prefix, stops}
use Rattle.bitstream_stream.proofs.read.reader.BitReaderBitRead.skip.Goals as goal

pub returns-in_err-read_unsigned_var : goal.returns-in_err-read_unsigned_var
returns-in_err-read_unsigned_var g c =
    record {
      reads = stops c.from_residual.result c.from_residual.ensures.1
          (skips-stop _ 128 c.args.bits _ _ _ (search rules) c.in_err-read_unsigned_var.ensures.reads);
    }

pub returns-then-bits-le128 : goal.returns-then-bits-le128
returns-then-bits-le128 g c = record {
  reads = skips _ 128 c.args.bits c.args.bits _ _ _ (search rules) refl
      c.in_ok-read_unsigned_var.ensures.reads;
}

pub returns-in_err-read_unsigned_var-2 : goal.returns-in_err-read_unsigned_var-2
returns-in_err-read_unsigned_var-2 g c =
    let first = c.args.self.now.queued in
    let few = c.args.self.now.few in
    let long = c.if-bits-le128.false in
    record {
      reads = stops c.from_residual-in_err-read_unsigned_var-2.result
          c.from_residual-in_err-read_unsigned_var-2.ensures.1
          (skips-prefix first c.args.bits _ _ _ (omega arith)
          (skips-stop _ 8 first _ _ _ (omega arith) c.in_err-read_unsigned_var-2.ensures.reads));
    }

pub returns-in_err-skip_bytes : goal.returns-in_err-skip_bytes
returns-in_err-skip_bytes g c =
    let first = c.args.self.now.queued in
    let few = c.args.self.now.few in
    let long = c.if-bits-le128.false in
    let whole = 8 * ((c.args.bits - first) / 8) in
    record {
      reads = stops c.from_residual-in_err-skip_bytes.result c.from_residual-in_err-skip_bytes.ensures.1
          (skips-prefix (first + whole) c.args.bits _ _ _ (omega arith)
          (skips-more first whole _ (Err _) _ _ _ refl
          (skips _ 8 first first _ _ _ (omega arith) refl c.in_ok-read_unsigned_var-2.ensures.reads)
          c.in_err-skip_bytes.ensures));
    }

pub returns-in_err-read_unsigned_var-3 : goal.returns-in_err-read_unsigned_var-3
returns-in_err-read_unsigned_var-3 g c =
    let first = c.args.self.now.queued in
    let few = c.args.self.now.few in
    let long = c.if-bits-le128.false in
    let whole = 8 * ((c.args.bits - first) / 8) in
    let last = (c.args.bits - first) % 8 in
    record {
      reads = stops c.from_residual-in_err-read_unsigned_var-3.result
          c.from_residual-in_err-read_unsigned_var-3.ensures.1
          (skips-more (first + whole) last c.args.bits (Err _) _ _ _ (omega arith)
          (skips-more first whole _ (Ok tt) _ _ _ refl
          (skips _ 8 first first _ _ _ (omega arith) refl c.in_ok-read_unsigned_var-2.ensures.reads)
          c.in_ok-skip_bytes.ensures)
          (skips-stop _ 8 last _ _ _ (omega arith) c.in_err-read_unsigned_var-3.ensures.reads));
    }

pub returns : goal.returns
returns g c =
    let first = c.args.self.now.queued in
    let few = c.args.self.now.few in
    let long = c.if-bits-le128.false in
    let whole = 8 * ((c.args.bits - first) / 8) in
    let last = (c.args.bits - first) % 8 in
    record {
      reads = skips-more (first + whole) last c.args.bits (Ok tt) _ _ _ (omega arith)
          (skips-more first whole _ (Ok tt) _ _ _ refl
          (skips _ 8 first first _ _ _ (omega arith) refl c.in_ok-read_unsigned_var-2.ensures.reads)
          c.in_ok-skip_bytes.ensures)
          (skips _ 8 last last _ _ _ (omega arith) refl c.in_ok-read_unsigned_var-3.ensures.reads);
    }
