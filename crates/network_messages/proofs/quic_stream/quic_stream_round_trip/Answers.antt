-- Made by `./format` from formats/quic_stream.fields: edit that file and make this one anew.
use Rattle.network_messages.proofs.QuicStreamLemmas.{quic_stream_goes, quic_stream_packs}
use Rattle.network_messages.proofs.quic_stream.quic_stream_round_trip.Goals as goal

pub returns-clause-back : goal.returns-clause-back
returns-clause-back c = λ o value at from more fits. (quic_stream_goes o value fits).back at from more

pub returns-clause-size : goal.returns-clause-size
returns-clause-size c = λ o value at fits. (quic_stream_packs o value fits).size at
