use Rattle.std.proofs.Common.{◌≡◌, ◌∙◌, ◌++◌, ◌+◌, ℕ, ℤ, List, Vec, Global, add-one, ap, refl, sym}
use Rattle.std.specs.Prelude.{map}
use Rattle.flac_codec.specs.Samples.{first_samples, samples_at}
use Rattle.flac_codec.proofs.samples.sample_bytes.Goals as goal

samples-more : (size : ℕ) (channels : List (List ℤ)) (n : ℕ)
    → first_samples size channels (n + 1) ≡ first_samples size channels n ++ samples_at size channels n
unfolding first_samples
samples-more size channels n = rw (add-one n) refl

pub loop-place-init : goal.loop-place-init
unfolding first_samples
loop-place-init c = c.new-bytes.ensures.items

pub loop-place-preserved : goal.loop-place-preserved
loop-place-preserved c =
    let channels = map (λ (channel : Vec ℤ Global). channel.items) c.args.channels.now in
    let size = c.args.sample_size in
    c.in_ok-extend_from_slice.ensures.items
    ∙ ap (λ xs. c.loop-place.bytes.items ++ xs) (c.as_slice.ensures.value ∙ c.in_ok-samples.ensures)
    ∙ ap (λ xs. xs ++ samples_at size channels c.loop-place.place) c.loop-place.invariant
    ∙ sym (samples-more size channels c.loop-place.place)
