-- Made by `./format --c` from ../protocols/formats/icmp_header.fields: edit that file and make this one anew.
-- When a parse of a `IcmpHeader` succeeds.
use Rattle.protocols_c.specs.IcmpHeader.{icmp_header_parsed, icmp_header_answer, icmp_header_bytes}
use Rattle.protocols_c.specs.Varied.{IsDecided}
use Rattle.protocols.specs.IcmpHeader.{icmp_header_decoder, icmp_header_writes, icmp_header_size, icmp_header_bits, Fits, body_size, body_fits}
use Rattle.protocols.specs.declared.icmp_header.IcmpHeader.{IcmpHeader}
use Rattle.protocols.specs.declared.icmp_header.Body.{Body}
use Rattle.protocols.specs.declared.icmp_header.Body.TheVariants.{EchoReply as BodyEchoReply, Redirect as BodyRedirect, Echo as BodyEcho, Other as BodyOther}
use Rattle.protocols.proofs.IcmpHeaderLemmas.{icmp_header_packs, icmp_header_goes, told}
use Rattle.protocols_c.proofs.VariedLemmas.{padded}
use Rattle.std.proofs.Common.{◌≡◌, ◌≤◌, ◌∙◌, ◌+◌, ◌/◌, ℕ, List, Result, Ok, Err, refl, ap, arith}
use Rattle.std.specs.Prelude.{take}
use Rattle.bitstream_io.specs.Callers.{Error, High, bits}
use Rattle.bitstream_io.specs.Codec.{Prefix, Incomplete, Done}

-- what C gets is decided by what the decoder says
answered : (r : Result IcmpHeader Error) (taken n : ℕ) → taken ≡ (n + 7) / 8
    → icmp_header_parsed taken r ≡ icmp_header_answer (Done n r)
answered (Ok x) taken n count = ap (λ k. icmp_header_parsed k (Ok x)) count
answered (Err e) taken n count = refl

pub decided : (prefix : Prefix IcmpHeader) (r : Result IcmpHeader Error) (taken : ℕ) → IsDecided prefix taken r
    → icmp_header_parsed taken r ≡ icmp_header_answer prefix
decided Incomplete r taken is = ap (icmp_header_parsed taken) is
decided (Done n x) r taken is = ap (icmp_header_parsed taken) is.0 ∙ answered x taken n is.1

-- the bytes taken are some of the bytes
pub within : (r : Result IcmpHeader Error) (taken : ℕ) → (icmp_header_parsed taken r).taken ≤ taken
within (Ok value) taken = omega arith
within (Err e) taken = omega arith

-- packed bytes are parsed again
pub packed : (value : IcmpHeader) (bytes : List ℕ) → Fits value → bits High (take (icmp_header_bytes value) bytes) ≡ icmp_header_bits value
    → icmp_header_answer ((icmp_header_decoder High).reads 0 (bits High bytes)) ≡ icmp_header_parsed (icmp_header_bytes value) (Ok value)
packed value bytes fits is =
    let all = icmp_header_packs High value fits in
    let parts = padded High (icmp_header_writes High value) (icmp_header_bytes value) bytes _ (told value) is in
    ap (λ b. icmp_header_answer ((icmp_header_decoder High).reads 0 b)) parts
    ∙ ap icmp_header_answer ((icmp_header_goes High value fits).back 0 0 _)
    ∙ ap (λ k. icmp_header_answer (Done k (Ok value))) (all.size 0)

-- a `Body` has no more bits
body_most : (it : Body) → body_fits it → body_size High it ≤ 32
body_most (BodyEchoReply it) fits = omega arith
body_most (BodyRedirect it) fits = omega arith
body_most (BodyEcho it) fits = omega arith
body_most (BodyOther it) fits = omega arith

-- the fields have no more bits
pub icmp_header_most : (value : IcmpHeader) → Fits value → icmp_header_size High value ≤ 64
icmp_header_most value fits =
    let body_most = body_most value.body fits.body in
    omega (arith, fits, body_most)
