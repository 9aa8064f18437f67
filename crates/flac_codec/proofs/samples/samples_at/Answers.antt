use borrow.Author.Rules.{sfits_of}
use Rattle.std.proofs.Common.{SFits, ◌≡◌, ◌∙◌, ◌++◌, ◌∷◌, [], ℤ, List, Vec, Global, ap, append-nil, get_or, pos, sym, take, w64}
use Rattle.std.specs.Prelude.{map}
use Rattle.std.specs.Int.{cast_unsigned, to_le_bytes}
use Rattle.std.proofs.lemmas.Int.{to_z-of_z}
use Rattle.std.proofs.lemmas.List.Concat.{flat_map-append}
use Rattle.flac_codec.specs.Samples.{byte_count, one_sample, samples_at}
use Rattle.flac_codec.proofs.WrittenLemmas.{map-take}
use Rattle.flac_codec.proofs.samples.samples_at.Goals as goal

pub loop-channel-preserved : goal.loop-channel-preserved
loop-channel-preserved c =
    let size = c.args.sample_size in
    let place = c.args.place in
    let items = λ (channel : Vec ℤ Global). channel.items in
    let one = λ (samples : List ℤ). one_sample size (get_or samples place (pos 0)) in
    let channel = c.channel-item.result in
    let before = map items (take c.loop-channel.channel-index c.args.channels.now) in
    let sample : c.sample_at.result ≡ get_or channel.items place (pos 0) =
    c.sample_at.ensures ∙ ap (λ xs. get_or xs place (pos 0)) c.as_slice.ensures.value in
    let fits : SFits w64 c.sample_at.result = search sfits_of in
    let whole = rw (to_z-of_z w64 c.sample_at.result fits) at c.to_le_bytes-whole.ensures in
    let part : take (byte_count size) c.to_le_bytes-whole.result ≡ one channel.items =
    ap (take (byte_count size)) (whole ∙ ap (λ x. to_le_bytes w64 (cast_unsigned w64 x)) sample) in
    (rw c.byte_count.ensures at c.in_ok-extend_from_slice.ensures.items)
    ∙ ap (λ xs. c.loop-channel.bytes.items ++ xs) part
    ∙ ap (λ xs. xs ++ one channel.items) c.loop-channel.invariant
    ∙ ap (λ xs. samples_at size before place ++ xs) (sym (append-nil (one channel.items)))
    ∙ sym (flat_map-append one before (channel.items ∷ []))
    ∙ ap (λ xs. samples_at size xs place) (sym (map-take items c.args.channels.now c.loop-channel.channel-index channel
    c.loop-channel-test.true c.channel-item.is))
