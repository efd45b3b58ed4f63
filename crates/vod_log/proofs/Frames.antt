-- A frame that was tested goes on behind a header.
use Rattle.std.proofs.Common.{◌≡◌, ℕ, ◌+◌, ◌-◌, ◌≤◌, List, length, take, get_or, refl, sym, ◌∙◌, ap, arith}
use Rattle.std.specs.Prelude.{Bool, true, false, Option, None, Some, if◌then◌else◌}
use Rattle.vod_log.specs.Format.{begins_header, header_of, follows}
use Rattle.vod_log.specs.Tail.{Continues, frame_header}
use Rattle.vod_log.specs.declared.header.Header.{Header}

header-begins : (t : Bool) (x h : Header) → (if t then Some x else None) ≡ Some h → (t ≡ true) × (x ≡ h)
header-begins true x h e = (refl, cc)
header-begins false x h e = absurd cc

pub frame-continues : (last : Option Header) (frame : List ℕ) (h : Header) → header_of (take 48 frame) ≡ Some h → h.length ≡ length frame - 49 → 49 ≤ length frame →
    follows last h ≡ true → get_or frame (length frame - 1) 0 ≡ 0 → Continues last frame
frame-continues last frame h header long room right closed =
    let is : (begins_header (take 48 frame) ≡ true) × (frame_header frame ≡ h) = header-begins (begins_header (take 48 frame)) (frame_header frame) h header in
    let size : (frame_header frame).length ≡ length frame - 49 = ap (λ x. x.length) is.1 ∙ long in
    let place : length frame - 1 ≡ 48 + (frame_header frame).length = omega (arith, size) in
    record {
      begins = is.0;
      right = ap (λ x. follows last x) is.1 ∙ right;
      long = omega (arith, size);
      closed = ap (λ i. get_or frame i 0) (sym place) ∙ closed;
    }

-- and one that goes on is not refused
pub continues-header : (last : Option Header) (frame : List ℕ) (h : Header) → header_of (take 48 frame) ≡ Some h → Continues last frame → (follows last h ≡ true) × (length frame ≡ 49 + h.length)
continues-header last frame h header is =
    let same : frame_header frame ≡ h = (header-begins (begins_header (take 48 frame)) (frame_header frame) h header).1 in
    (ap (λ x. follows last x) (sym same) ∙ is.right, is.long ∙ ap (λ x. 49 + x.length) same)
