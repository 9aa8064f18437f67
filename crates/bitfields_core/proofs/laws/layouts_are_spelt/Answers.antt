use Rattle.bitfields_core.proofs.SpelledLayouts.{layout_of-layout_text, layout_text-layout_of}
use Rattle.bitfields_core.proofs.laws.layouts_are_spelt.Goals as goal

pub returns-clause-spelt : goal.returns-clause-spelt
returns-clause-spelt c = layout_of-layout_text

pub returns-clause-only : goal.returns-clause-only
returns-clause-only c = layout_text-layout_of
