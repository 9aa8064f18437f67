use Rattle.flac_codec.proofs.coded.+write_rest.Given as goal

abbrev pub decreases-write_rest : goal.decreases-write_rest
decreases-write_rest g l = l.bytes
