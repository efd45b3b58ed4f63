-- What the laws of the readers say of the sources of the program.
use Rattle.std.proofs.Common.{◌≡◌, ℕ, ◌<◌, ◌≤◌, ◌^◌, List, length, take, nat_lt, Bool, true, false, refl, sym, ap, subst, ◌∙◌, arith, take_all}
use Rattle.vod_thin_design.specs.declared.thin.Vector.{Vector}
use Rattle.vod_thin_design.specs.Netlist.{Netlist}
use Rattle.vod_thin_design.specs.Names.{HasPlainNames}
use Rattle.vod_thin.specs.Thin as thin
use Rattle.vod_thin_script.specs.Script as script
use Rattle.vod_program.specs.Sources.{IsSource, IsRefusedSource}
use Rattle.vod_program.proofs.PhaseLaws.{lt_false}

-- a source is one design or is refused at one place, and a script is read or refused at one line
pub record OneAnswer : Type 0 where
  pub design : (source : List ℕ) (d e : Netlist) → IsSource source d → IsSource source e → d ≡ e
  pub place : (source : List ℕ) (p q : ℕ) → IsRefusedSource source p → IsRefusedSource source q → p ≡ q
  pub apart : (source : List ℕ) (d : Netlist) (p : ℕ) → IsSource source d → IsRefusedSource source p → ⊥
  pub line : (source : List ℕ) (d : Netlist) (text : List ℕ) (k l : ℕ) → IsSource source d → script.IsRefused d text k → script.IsRefused d text l → k ≡ l
  pub reading : (source : List ℕ) (d : Netlist) (text : List ℕ) (vs ws : List Vector) → IsSource source d → script.IsScript d text vs → script.IsScript d text ws → vs ≡ ws
  pub unread : (source : List ℕ) (d : Netlist) (text : List ℕ) (k : ℕ) (vs : List Vector) → IsSource source d → script.IsRefused d text k → script.IsScript d text vs → ⊥

-- the laws of the two readers
abbrev pub OneDesign : Type 0
OneDesign = (source : List ℕ) (d e : Netlist) → thin.IsThin source d → thin.IsThin source e → d ≡ e

abbrev pub OnePlace : Type 0
OnePlace = (source : List ℕ) (more : Bool) (p q : ℕ) → thin.IsRefused source more p → thin.IsRefused source more q → p ≡ q

abbrev pub ThinApart : Type 0
ThinApart = (source : List ℕ) (d : Netlist) (p : ℕ) → thin.IsThin source d → thin.IsRefused source false p → ⊥

abbrev pub PlainNames : Type 0
PlainNames = (source : List ℕ) (d : Netlist) → length source ≤ 2 ^ 20 → thin.IsThin source d → HasPlainNames d

abbrev pub OneLine : Type 0
OneLine = (d : Netlist) → HasPlainNames d → (bytes : List ℕ) (line other : ℕ) → script.IsRefused d bytes line → script.IsRefused d bytes other → line ≡ other

abbrev pub Unread : Type 0
Unread = (d : Netlist) → HasPlainNames d → (bytes : List ℕ) (line : ℕ) (vs : List Vector) → script.IsRefused d bytes line → script.IsScript d bytes vs → ⊥

-- what is judged of a source that is short is the whole of it
whole : (source : List ℕ) (d : Netlist) (p : ℕ) → IsSource source d → IsRefusedSource source p → thin.IsRefused source false p
whole source d p is refused =
    subst (λ s. thin.IsRefused s false p) (take_all (2 ^ 20) source is.short) (subst (λ m. thin.IsRefused (take (2 ^ 20) source) m p) (lt_false (2 ^ 20) (length source) is.short) refused)

abbrev pub OneReading : Type 0
OneReading = (d : Netlist) → HasPlainNames d → (bytes : List ℕ) (vs ws : List Vector) → script.IsScript d bytes vs → script.IsScript d bytes ws → vs ≡ ws

pub one_answer : OneDesign → OnePlace → ThinApart → PlainNames → OneReading → OneLine → Unread → OneAnswer
one_answer designs places apart plain readings lines unread = record {
  design = λ source d e a b. designs source d e a.thin b.thin;
  place = λ source p q. places (take (2 ^ 20) source) (nat_lt (2 ^ 20) (length source)) p q;
  apart = λ source d p is refused. apart source d p is.thin (whole source d p is refused);
  line = λ source d text k l is. lines d (plain source d is.short is.thin) text k l;
  reading = λ source d text vs ws is. readings d (plain source d is.short is.thin) text vs ws;
  unread = λ source d text k vs is. unread d (plain source d is.short is.thin) text k vs;
}
