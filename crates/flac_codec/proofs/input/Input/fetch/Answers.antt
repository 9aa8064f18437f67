use Rattle.std.proofs.Common.{arith, ◌≡◌, ◌∙◌, ◌+◌, ◌≤◌, ◌++◌, length, take, List, ℕ, refl}
use Rattle.flac_codec.proofs.InputLemmas.{written_front, grown_front, Keeps-fetched}
use Rattle.flac_codec.proofs.input.Input.fetch.Goals as goal

pub returns-in-Ok-clause-left : goal.returns-in-Ok-clause-left
returns-in-Ok-clause-left g c =
    let there : c.len-there.result ≡ length c.args.self.now.bytes.items = omega (arith, c.len-there.ensures) in
    let long : length c.args.self.now.bytes.items ≤ c.saturating_add.result = omega (arith, c.saturating_add.ensures) in
    let front : take (length c.args.self.now.bytes.items) c.deref_mut.result.now ≡ c.args.self.now.bytes.items =
    grown_front c.args.self.now.bytes.items _ c.deref_mut.result.now c.saturating_add.result long
    (c.deref_mut.ensures.value ∙ c.in_ok-resize.ensures.items) in
    let kept = rw (there, front) at c.truncate.ensures.items in
    let is : c.truncate.new.self.items ≡ c.args.self.now.bytes.items ++ take c.in-Ok.count c.read_some.new.buf =
    kept ∙ written_front c.args.self.now.bytes.items c.read_some.new.buf _ _ c.in-Ok.count c.resize.new.self.len
    (omega (arith, c.in-Ok.ensures.bound))
    (omega (arith, c.in-Ok.ensures.bound, c.in_ok-resize.ensures.len, c.deref_mut.ensures.len, c.read_some.auto, there, long)) in
    Keeps-fetched _ _ c.args.self.now.bytes.items _ _ c.args.self.now.start (omega arith) is c.in-Ok.ensures.bytes.0
