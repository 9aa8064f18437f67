use Rattle.bitstream_io.proofs.WindowLemmas.{window-high, window-low}
use Rattle.bitstream_io.proofs.symbols.entry.entry_at.Goals as goal

pub returns-then-index-lt1024 : goal.returns-then-index-lt1024
returns-then-index-lt1024 g c = rw (window-high c.args.index c.if-index-lt1024.true) c.entry_of.ensures

pub returns-else-index-lt1024 : goal.returns-else-index-lt1024
returns-else-index-lt1024 g c =
    rw (window-low c.args.index c.if-index-lt1024.false) c.entry_of-else-index-lt1024.ensures
