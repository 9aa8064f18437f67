-- Made by `./format --c` from ../protocols/formats/ethernet_header.fields: edit that file and make this one anew.
-- When a parse of a `EthernetHeader` succeeds.
use Rattle.protocols_c.specs.EthernetHeader.{ethernet_header_parsed, ethernet_header_answer, ethernet_header_bytes}
use Rattle.protocols_c.specs.Varied.{IsDecided}
use Rattle.protocols.specs.EthernetHeader.{ethernet_header_decoder, ethernet_header_writes, ethernet_header_size, ethernet_header_bits, Fits}
use Rattle.protocols.specs.VlanTag.{vlan_tag_size, Fits as VlanTagFits}
use Rattle.protocols.specs.declared.ethernet_header.EthernetHeader.{EthernetHeader}
use Rattle.protocols.proofs.EthernetHeaderLemmas.{ethernet_header_packs, ethernet_header_goes, told}
use Rattle.protocols_c.proofs.VariedLemmas.{optional_most, padded}
use Rattle.std.proofs.Common.{◌≡◌, ◌≤◌, ◌∙◌, ◌+◌, ◌/◌, ℕ, List, Result, Ok, Err, refl, ap, arith}
use Rattle.std.specs.Prelude.{take}
use Rattle.bitstream_io.specs.Callers.{Error, High, bits}
use Rattle.bitstream_io.specs.Codec.{Prefix, Incomplete, Done}

-- what C gets is decided by what the decoder says
answered : (r : Result EthernetHeader Error) (taken n : ℕ) → taken ≡ (n + 7) / 8
    → ethernet_header_parsed taken r ≡ ethernet_header_answer (Done n r)
answered (Ok x) taken n count = ap (λ k. ethernet_header_parsed k (Ok x)) count
answered (Err e) taken n count = refl

pub decided : (prefix : Prefix EthernetHeader) (r : Result EthernetHeader Error) (taken : ℕ) → IsDecided prefix taken r
    → ethernet_header_parsed taken r ≡ ethernet_header_answer prefix
decided Incomplete r taken is = ap (ethernet_header_parsed taken) is
decided (Done n x) r taken is = ap (ethernet_header_parsed taken) is.0 ∙ answered x taken n is.1

-- the bytes taken are some of the bytes
pub within : (r : Result EthernetHeader Error) (taken : ℕ) → (ethernet_header_parsed taken r).taken ≤ taken
within (Ok value) taken = omega arith
within (Err e) taken = omega arith

-- packed bytes are parsed again
pub packed : (value : EthernetHeader) (bytes : List ℕ) → Fits value → bits High (take (ethernet_header_bytes value) bytes) ≡ ethernet_header_bits value
    → ethernet_header_answer ((ethernet_header_decoder High).reads 0 (bits High bytes)) ≡ ethernet_header_parsed (ethernet_header_bytes value) (Ok value)
packed value bytes fits is =
    let all = ethernet_header_packs High value fits in
    let parts = padded High (ethernet_header_writes High value) (ethernet_header_bytes value) bytes _ (told value) is in
    ap (λ b. ethernet_header_answer ((ethernet_header_decoder High).reads 0 b)) parts
    ∙ ap ethernet_header_answer ((ethernet_header_goes High value fits).back 0 0 _)
    ∙ ap (λ k. ethernet_header_answer (Done k (Ok value))) (all.size 0)

-- the fields have no more bits
pub ethernet_header_most : (value : EthernetHeader) → Fits value → ethernet_header_size High value ≤ 144
ethernet_header_most value fits =
    let tag_most = optional_most (vlan_tag_size High) 32 VlanTagFits value.tag fits.tag (λ it fit. omega arith) in
    omega (arith, fits, tag_most)
