use Rattle.flac_codec.proofs.coded.+read_rest.Given as goal

abbrev pub decreases-read_rest : goal.decreases-read_rest
decreases-read_rest g l = l.bytes
