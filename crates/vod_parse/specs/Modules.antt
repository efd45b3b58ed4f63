-- Modules and sources: which tokens are which tree (IEEE 1364-2005, A.1.2, A.1.3, 19).
use Rattle.std.specs.Prelude.{◌≡◌, ℕ, List, [], ◌∷◌, ◌++◌, Option, length, min}
use Rattle.vod_tree.specs.declared.declaration.ParameterPort.{ParameterPort}
use Rattle.vod_tree.specs.declared.declaration.Ports.{Ports}
use Rattle.vod_tree.specs.declared.ident.Ident.{Ident}
use Rattle.vod_tree.specs.declared.«module».Directive.{Directive}
use Rattle.vod_tree.specs.declared.«module».Item.{Item}
use Rattle.vod_tree.specs.declared.«module».Module.{Module}
use Rattle.vod_tree.specs.declared.«module».SourceItem.{SourceItem}
use Rattle.vod_tree.specs.declared.«module».SourceItem.TheVariants as part
use Rattle.vod_tree.specs.declared.«module».Tree.{Tree}
use Rattle.vod_expr.specs.Grammar.{Lexeme, IsName, ident_of}
use Rattle.vod_grammar.specs.Words.{Is}
use Rattle.vod_grammar.specs.declared.word.Word.TheVariants as word
use Rattle.vod_declaration.specs.Parameters.{AreParameterPorts}
use Rattle.vod_declaration.specs.Parts.{IsOptional}
use Rattle.vod_declaration.specs.Ports.{IsPortList}
use Rattle.vod_directive.specs.Meaning.{IsDirective}
use Rattle.vod_parse.specs.Items.{AreItems}

-- how many tokens a module has, as far as 32 bits can say
abbrev pub capped : ℕ → ℕ
capped n = min n 4294967295

abbrev pub module_tree : ℕ → Ident → Option (List ParameterPort) → Ports → List Item → ℕ → Module
module_tree at n ps l xs count = record { place = at; name = n; parameters = ps; ports = l; items = xs; tokens = capped count }

-- "#" and parameters
pub data AreOverridable : List Lexeme → List ParameterPort → Type 0 where
  header : {hash : Lexeme} {ts : List Lexeme} {ps : List ParameterPort} → Is word.Hash hash → AreParameterPorts ts ps → AreOverridable (hash ∷ ts) ps

-- "module" NAME [ "#" parameters ] [ ports ] ";" { item } "endmodule"; all its tokens are counted
pub data IsModule : List Lexeme → Module → Type 0 where
  enclosed : {t name semicolon last : Lexeme} {all ts us vs : List Lexeme} {ps : Option (List ParameterPort)} {l : Ports} {xs : List Item}
      → Is word.Module t → IsName name → IsOptional AreOverridable ts ps → IsPortList us l → Is word.Semicolon semicolon → AreItems vs xs → Is word.Endmodule last
      → all ≡ t ∷ name ∷ (ts ++ (us ++ semicolon ∷ (vs ++ last ∷ [])))
      → IsModule all (module_tree t.place (ident_of name) ps l xs (length all))

-- a directive or a module
pub data IsPart : List Lexeme → SourceItem → Type 0 where
  of_directive : {t : Lexeme} {x : Directive} → IsDirective t x → IsPart (t ∷ []) (part.Directive x)
  of_module : {ts : List Lexeme} {x : Module} → IsModule ts x → IsPart ts (part.Module x)

pub data AreParts : List Lexeme → List SourceItem → Type 0 where
  no_part : AreParts [] []
  one_part : {ts us : List Lexeme} {x : SourceItem} {xs : List SourceItem} → IsPart ts x → AreParts us xs → AreParts (ts ++ us) (x ∷ xs)

-- a source: directives and modules
pub data IsSource : List Lexeme → Tree → Type 0 where
  source : {ts : List Lexeme} {xs : List SourceItem} → AreParts ts xs → IsSource ts (record { items = xs })
