-- Items of modules: which tokens are which tree (IEEE 1364-2005, A.1.4).
use Rattle.std.specs.Prelude.{ℕ, List, [], ◌∷◌, ◌++◌}
use Rattle.vod_tree.specs.declared.instance.Gate.{Gate}
use Rattle.vod_tree.specs.declared.instance.Instances.{Instances}
use Rattle.vod_tree.specs.declared.«module».Function.{Function}
use Rattle.vod_tree.specs.declared.«module».Item.{Item}
use Rattle.vod_tree.specs.declared.«module».ItemKind.{ItemKind}
use Rattle.vod_tree.specs.declared.«module».ItemKind.TheVariants as kind
use Rattle.vod_tree.specs.declared.statement.Always.{Always}
use Rattle.vod_tree.specs.declared.statement.Assignment.{Assignment}
use Rattle.vod_tree.specs.declared.statement.InitialStatement.{InitialStatement}
use Rattle.vod_expr.specs.Grammar.{Lexeme}
use Rattle.vod_grammar.specs.Read.{place_of}
use Rattle.vod_grammar.specs.Words.{Is}
use Rattle.vod_grammar.specs.declared.word.Word.TheVariants as word
use Rattle.vod_declaration.specs.Items.{IsDeclaration}
use Rattle.vod_initial.specs.Initial.{IsInitial}
use Rattle.vod_instance.specs.Gates.{IsGate}
use Rattle.vod_instance.specs.Instances.{AreInstances}
use Rattle.vod_parse.specs.Functions.{IsFunction}
use Rattle.vod_parse.specs.Processes.{IsAlways, AreAssignments}

-- the alternatives of an item
pub data IsKind : List Lexeme → ItemKind → Type 0 where
  declared : {ts : List Lexeme} {k : ItemKind} → IsDeclaration ts k → IsKind ts k
  assigned : {t : Lexeme} {ts : List Lexeme} {xs : List Assignment} → Is word.Assign t → AreAssignments ts xs → IsKind (t ∷ ts) (kind.Assign xs)
  gated : {ts : List Lexeme} {x : Gate} → IsGate ts x → IsKind ts (kind.Gate x)
  instantiated : {ts : List Lexeme} {x : Instances} → AreInstances ts x → IsKind ts (kind.Instances x)
  computed : {t : Lexeme} {ts : List Lexeme} {x : Function} → Is word.Function t → IsFunction t.place ts x → IsKind (t ∷ ts) (kind.Function x)
  begun : {t : Lexeme} {ts : List Lexeme} {x : InitialStatement} → Is word.Initial t → IsInitial ts x → IsKind (t ∷ ts) (kind.Initial x)
  repeated : {t : Lexeme} {ts : List Lexeme} {x : Always} → Is word.Always t → IsAlways t.place ts x → IsKind (t ∷ ts) (kind.Always x)

abbrev pub item : ℕ → ItemKind → Item
item at k = record { place = at; kind = k }

-- an item at the place of its first token
pub data IsItem : List Lexeme → Item → Type 0 where
  placed : {ts : List Lexeme} {k : ItemKind} → IsKind ts k → IsItem ts (item (place_of ts) k)

-- items, or none
pub data AreItems : List Lexeme → List Item → Type 0 where
  no_item : AreItems [] []
  one_item : {ts us : List Lexeme} {x : Item} {xs : List Item} → IsItem ts x → AreItems us xs → AreItems (ts ++ us) (x ∷ xs)
