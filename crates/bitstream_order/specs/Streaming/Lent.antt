-- The properties of a stream that a function borrows.
use Rattle.std.specs.Prelude.{◌∷◌}
use Rattle.bitstream_order.specs.Reference.{by_name}
use Rattle.bitstream_order.specs.Streams.{InputStream, OutputStream}
use Rattle.bitstream_order.specs.declared.streams.lent.Lent.{Lent}

-- a borrowed source has the properties of the source that the reference points to, and is reached through the
-- reference too
abbrev pub lent_input : {S : Type 0} → InputStream S → InputStream (Lent S)
lent_input I = record {
  remaining = λ lent. I.remaining lent.at.now;
  references = λ lent. by_name lent.at.ghost_name ∷ I.references lent.at.now;
  refuses = λ before wanted kind after. I.refuses before.at.now wanted kind after.at.now;
  takes = λ before count after. I.takes before.at.now count after.at.now;
}

-- the same for a target
abbrev pub lent_output : {S : Type 0} → OutputStream S → OutputStream (Lent S)
lent_output O = record {
  contents = λ lent. O.contents lent.at.now;
  references = λ lent. by_name lent.at.ghost_name ∷ O.references lent.at.now;
  refuses = λ before wanted kind after. O.refuses before.at.now wanted kind after.at.now;
  flushes = λ before after. O.flushes before.at.now after.at.now;
}
