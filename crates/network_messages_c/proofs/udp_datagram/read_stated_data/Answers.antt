-- Made by `./format --c` from ../network_messages/formats/udp_datagram.fields: edit that file and make this one anew.
use Rattle.bitstream_format.specs.Stated.{sized_bytes}
use Rattle.network_messages.specs.declared.udp_datagram.UdpDatagramError.TheVariants.{ShortLength}
use Rattle.std.proofs.Common.{◌∙◌, [], refl, sym}
use Rattle.bitstream_io.proofs.CallerLemmas.{next_own_read, exit_own_read, own_end}
use Rattle.bitstream_io.proofs.EachLemmas.{own_map_err}
use Rattle.network_messages_c.proofs.ListLemmas.{failed_if, kept_begin}
use Rattle.network_messages_c.proofs.StatedLemmas.{stated_own-none, stated_own-some}
use Rattle.network_messages_c.proofs.udp_datagram.read_stated_data.Goals as goal

pub returns-in-None : goal.returns-in-None
returns-in-None g c = record {
  all = [];
  reads = stated_own-none 1 8 0 ShortLength sized_bytes _ _ (sym c.in-None.is ∙ c.stated_size.ensures);
  size = tt;
  keeps = kept_begin _;
}

pub returns-in_err-read_data-in-Some : goal.returns-in_err-read_data-in-Some
returns-in_err-read_data-in-Some g c =
    let was = c.in_err-read_data-in-Some.ensures in
    record {
      all = was.all;
      reads = rw (own_map_err _ c.from_residual.result c.from_residual.ensures.1)
          (stated_own-some 1 8 0 ShortLength sized_bytes _ _ (sym c.in-Some.is ∙ c.stated_size.ensures) (exit_own_read _ refl was.reads));
      size = failed_if _ _ c.from_residual.result c.from_residual.ensures.1;
      keeps = was.keeps;
    }

pub returns-in_ok-read_data-in-Some : goal.returns-in_ok-read_data-in-Some
returns-in_ok-read_data-in-Some g c =
    let was = c.in_ok-read_data-in-Some.ensures in
    record {
      all = was.all;
      reads = stated_own-some 1 8 0 ShortLength sized_bytes _ _ (sym c.in-Some.is ∙ c.stated_size.ensures) (next_own_read _ was.reads (own_end _ _));
      size = was.size refl;
      keeps = was.keeps;
    }
