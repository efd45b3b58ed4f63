-- The parts of a module of the code lie in its source and in its list of tokens.
use Rattle.std.specs.Prelude.{◌≤◌, ℕ, List, length, All}
use Rattle.vod_token.specs.Span.{LiesIn}
use Rattle.vod_token.specs.declared.Token.{Token}
use Rattle.vod_thin_syntax.specs.declared.syntax.Span as code_span
use Rattle.vod_thin_syntax.specs.declared.syntax.Port as code_port
use Rattle.vod_thin_syntax.specs.declared.syntax.Item as code_item
use Rattle.vod_thin_syntax.specs.declared.syntax.Item.TheVariants as item
use Rattle.vod_thin_syntax.specs.declared.syntax.Module as code_module
use Rattle.vod_thin_syntax.specs.declared.syntax.Sentence.{Sentence}

-- a range of the list
pub record IsRange (ts : List Token) (span : code_span.Span) : Type 0 where
  pub order : span.from ≤ span.to
  pub within : span.to ≤ length ts

abbrev pub PortLies : List ℕ → code_port.Port → Type 0
PortLies source port = LiesIn source port.name

abbrev pub ItemLies : List ℕ → List Token → code_item.Item → Type 0
ItemLies source ts (item.Wire name) = LiesIn source name
ItemLies source ts (item.Register name initial) = LiesIn source name
ItemLies source ts (item.Assign target value) = LiesIn source target × IsRange ts value
ItemLies source ts (item.Always clock register value) = LiesIn source clock × LiesIn source register × IsRange ts value

pub record ModuleLies (source : List ℕ) (ts : List Token) (m : code_module.Module) : Type 0 where
  pub name : LiesIn source m.name
  pub ports : All (PortLies source) m.ports.items
  pub items : All (ItemLies source ts) m.items.items

-- tokens and module of a sentence
pub record Lies (source : List ℕ) (s : Sentence) : Type 0 where
  pub tokens : All (LiesIn source) s.tokens.items
  pub parts : ModuleLies source s.tokens.items s.module
