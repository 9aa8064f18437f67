-- Made by `./format` from formats/ts_pat.fields: edit that file and make this one anew.
use Rattle.media_messages.specs.TsPat.{programs_sized}
use Rattle.bitstream_format.proofs.StatedLemmas.{stated-none, stated-some}
use Rattle.media_messages.specs.declared.ts_pat.TsPatError.TheVariants.{Overlong}
use Rattle.std.proofs.Common.{◌∙◌, sym}
use Rattle.media_messages.proofs.ts_pat.read_stated_programs.Goals as goal

pub returns-in-None : goal.returns-in-None
returns-in-None g c = stated-none 1 9 0 Overlong programs_sized _ _ (sym c.in-None.is ∙ c.stated_size.ensures)

pub returns-in-Some : goal.returns-in-Some
returns-in-Some g c = stated-some 1 9 0 Overlong programs_sized _ _ (sym c.in-Some.is ∙ c.stated_size.ensures)
    c.read_programs.ensures
