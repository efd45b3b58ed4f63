-- What an answer says of a source: nested too deep in its form is nested too deep in it, since it has no more `{` than tokens.
use Rattle.std.proofs.Common.{◌≡◌, ◌⊎◌, inl, inr, ◌≤◌, ◌<◌, ℕ, List, [], ◌∷◌, ◌++◌, length, length-append, arith, Option, None, ◌∙◌, ap}
use Rattle.vod_tree.specs.declared.«module».Tree.{Tree}
use Rattle.vod_expr.specs.Grammar.{Lexeme}
use Rattle.vod_expr.specs.declared.ParseFault.{ParseFault}
use Rattle.vod_expr.specs.declared.ParseFault.TheVariants.{At, End, Statement, Memory}
use Rattle.vod_grammar.specs.Form.{Sight, Before}
use Rattle.vod_grammar.specs.Laws.{Laws, AreLexemes}
use Rattle.vod_grammar.specs.Read.{Got, Failed, first}
use Rattle.vod_parse.specs.Depth.{IsTooDeep}
use Rattle.vod_parse.specs.Modules.{IsSource}
use Rattle.vod_parse.specs.ModulesForm.{source_form}
use Rattle.vod_parse.specs.Whole.{Shallow, IsWhole, Refuses}
use Rattle.vod_parse.specs.WholeLaws as wholes

-- what is known of the form of sources
pub record Known : Type 0 where
  pub laws : (size : ℕ) → Laws (source_form size)
  pub phrase : (size : ℕ) (m : Sight) (ts : List Lexeme) (x : Tree) (b : Option Lexeme) → (source_form size).phrase m ts x b → IsSource ts x
  pub source : (size : ℕ) (ts : List Lexeme) (x : Tree) → IsSource ts x → (source_form size).phrase Before ts x None
  pub ends : (size : ℕ) (ts : List Lexeme) (x : Tree) (rest : List Lexeme) → (source_form size).phrase Before ts x (first rest None) → rest ≡ []
  pub deep : (size : ℕ) (front : List Lexeme) (t : Lexeme) → (source_form size).deep front t → IsTooDeep front t ⊎ (size ≤ length front)
  pub below : (size : ℕ) (front : List Lexeme) (t : Lexeme) → IsTooDeep front t → (source_form size).deep front t

module _ (known : Known) (size : ℕ) where
  shallow_to : (us : List Lexeme) → Shallow (source_form size).deep us → Shallow IsTooDeep us
  shallow_to us s p = s (record { front = p.front; token = p.token; rest = p.rest; split = p.split; deep = known.below size p.front p.token p.deep })

  before : (us front : List Lexeme) (t : Lexeme) (rest : List Lexeme) → us ≡ front ++ t ∷ rest → length front < length us
  before us front t rest split = let e = ap length split in let k = length-append front (t ∷ rest) in omega (arith, e, k)

  is_deep : (us front : List Lexeme) (t : Lexeme) (rest : List Lexeme) → length us ≤ size → us ≡ front ++ t ∷ rest → (source_form size).deep front t → IsTooDeep front t
  is_deep us front t rest few split d = by (known.deep size front t d)
    where
      by : IsTooDeep front t ⊎ (size ≤ length front) → IsTooDeep front t
      by (inl k) = k
      by (inr far) = let less = before us front t rest split in absurd (omega (arith, few, far, less))

  shallow_from : (us : List Lexeme) → length us ≤ size → Shallow IsTooDeep us → Shallow (source_form size).deep us
  shallow_from us few s p = s (record { front = p.front; token = p.token; rest = p.rest; split = p.split; deep = is_deep us p.front p.token p.rest few p.split p.deep })

  whole_from : (ts : List Lexeme) (x : Tree) → length ts ≤ size → IsWhole IsSource IsTooDeep ts x → IsWhole IsSource (source_form size).deep ts x
  whole_from ts x few w = record { is = w.is; shallow = shallow_from ts few w.shallow }

  -- a source that is read
  pub read_is : (ts : List Lexeme) (x : Tree) (rest : List Lexeme) → AreLexemes ts → (source_form size).read ts ≡ Got x rest → IsWhole IsSource IsTooDeep ts x
  read_is ts x rest all h =
      let p = (known.laws size).sound ts x rest all h in
      let none : rest ≡ [] = known.ends size p.front x rest p.is in
      let w = wholes.whole IsSource (source_form size) (known.laws size) (known.phrase size) (known.source size) ts x all (h ∙ ap (Got x) none) in
      record { is = w.is; shallow = shallow_to ts w.shallow }

  -- a source that is refused
  refuses_to : (ts : List Lexeme) (fault : ParseFault) → length ts ≤ size → Refuses IsSource (source_form size).deep ts fault → Refuses IsSource IsTooDeep ts fault
  refuses_to ts (At place) few w = record {
    front = w.front;
    token = w.token;
    rest = w.rest;
    split = w.split;
    is = w.is;
    begins = w.begins;
    wrong = w.wrong;
    shallow = shallow_to (w.front ++ w.token ∷ []) w.shallow;
  }
  refuses_to ts End few w = record { begins = w.begins; none = w.none; shallow = shallow_to ts w.shallow }
  refuses_to ts (Statement place) few w = record {
    front = w.front;
    token = w.token;
    rest = w.rest;
    split = w.split;
    is = w.is;
    deep = is_deep ts w.front w.token w.rest few w.split w.deep;
    begins = w.begins;
    shallow = shallow_to w.front w.shallow;
  }
  refuses_to ts Memory few w = absurd w

  pub refused_is : (ts : List Lexeme) (fault : ParseFault) → length ts ≤ size → AreLexemes ts → (source_form size).read ts ≡ Failed fault → Refuses IsSource IsTooDeep ts fault
  refused_is ts fault few all h = refuses_to ts fault few (wholes.refused IsSource (source_form size) (known.laws size) (known.phrase size) (known.source size) ts fault all h)

  -- one tree
  pub one_tree : (ts : List Lexeme) (x y : Tree) → length ts ≤ size → IsWhole IsSource IsTooDeep ts x → IsWhole IsSource IsTooDeep ts y → x ≡ y
  one_tree ts x y few v w =
      wholes.one_tree IsSource (source_form size) (known.laws size) (known.phrase size) (known.source size) ts x y (whole_from ts x few v) (whole_from ts y few w)
