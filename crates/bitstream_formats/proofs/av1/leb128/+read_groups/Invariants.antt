use Rattle.bitstream_formats.proofs.av1.leb128.+read_groups.Given as goal

abbrev pub decreases-read_groups : goal.decreases-read_groups
decreases-read_groups g l = l.room
