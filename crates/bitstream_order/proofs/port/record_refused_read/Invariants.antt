use Rattle.bitstream_order.proofs.port.record_refused_read.Given as goal

abbrev pub ghost-push : goal.ghost-push
ghost-push g a = g.by
