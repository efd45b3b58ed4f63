-- A source has one design, or is refused at one place.
use Rattle.std.proofs.Common.{◌≡◌, ◌≢◌, ℕ, Bool, true, false, List, [], Option, None, Some, refl, sym, ap, ◌∙◌, subst}
use Rattle.std.specs.Prelude.{Result, Ok, Err, IfOk, IfErr, MatchResult}
use Rattle.vod_token.specs.declared.Token.{Token}
use Rattle.vod_thin_design.specs.Netlist.{Netlist}
use Rattle.vod_thin_syntax.specs.Refusal.{Reads, Breaks, IsRefusedAt}
use Rattle.vod_thin_syntax.specs.Limit.{sooner, limit_of}
use Rattle.vod_thin_syntax.specs.Outcome as outcome
use Rattle.vod_thin_syntax.specs.Outcome.{IsRead}
use Rattle.vod_thin_syntax.specs.Syntax.{Value, Module, printed}
use Rattle.vod_thin_syntax.specs.View.{module_of}
use Rattle.vod_thin_syntax.specs.declared.fault.SyntaxFault.{SyntaxFault}
use Rattle.vod_thin_syntax.specs.declared.fault.SyntaxFault.TheVariants as syntax
use Rattle.vod_thin_syntax.specs.declared.syntax.Sentence.{Sentence}
use Rattle.vod_thin.specs.declared.fault.ThinFault.{ThinFault}
use Rattle.vod_thin.specs.declared.fault.ThinFault.TheVariants.{At, Memory}
use Rattle.vod_thin.specs.Faults.{fault_of, IsFault}
use Rattle.vod_thin.specs.Rules.{least, faults}
use Rattle.vod_thin.proofs.Leasts.{sooner_some, least_none}
use Rattle.vod_thin.specs.Netlists.{design_of}
use Rattle.vod_thin.specs.Thin.{first_fault, IsThin, IsRefused}
use Rattle.vod_thin.specs.Thin.IsRefused.{unread, faulty}

-- what is known of sentences
abbrev pub OneReading : Type 0
OneReading = (source : List ℕ) (ts us : List Token) (m n : Module Value) → Reads source ts m → Reads source us n → (ts ≡ us) × (m ≡ n)

abbrev pub Unbroken : Type 0
Unbroken = (source : List ℕ) (ts : List Token) (m : Module Value) (place : ℕ) → Reads source ts m → Breaks source false place → ⊥

abbrev pub RefusedOnce : Type 0
RefusedOnce = (source : List ℕ) (more : Bool) (place other : ℕ) → IsRefusedAt source more place → IsRefusedAt source more other → place ≡ other

pub one_design : OneReading → (source : List ℕ) (d e : Netlist) → IsThin source d → IsThin source e → d ≡ e
one_design one source d e p q = p.design ∙ ap design_of (one source p.tokens q.tokens p.tree q.tree p.reads q.reads).1 ∙ sym q.design

same_fault : OneReading → (source : List ℕ) (ts us : List Token) (m n : Module Value) → Reads source ts m → Reads source us n → first_fault source ts m ≡ first_fault source us n
same_fault one source ts us m n p q = let same = one source ts us m n p q in ap (λ v. first_fault source v m) same.0 ∙ ap (first_fault source us) same.1

pub thin_unrefused : OneReading → Unbroken → (source : List ℕ) (d : Netlist) (more : Bool) (place : ℕ) → more ≡ false → IsThin source d → IsRefused source more place → ⊥
thin_unrefused one whole source d more place e thin (unread more' place' refused) =
    whole source thin.tokens thin.tree refused.breaks.0 thin.reads (subst (λ b. Breaks source b refused.breaks.0) e refused.breaks.1)
thin_unrefused one whole source d more place e thin (faulty ts m place' reads fault) =
    let same = same_fault one source thin.tokens ts thin.tree m thin.reads reads in
    let none = thin.faultless in cc

read_unrefused : Unbroken → (source : List ℕ) (ts : List Token) (m : Module Value) (more : Bool) (place : ℕ) → more ≡ false → Reads source ts m → IsRefusedAt source more place → ⊥
read_unrefused whole source ts m more place e reads refused =
    whole source ts m refused.breaks.0 reads (subst (λ b. Breaks source b refused.breaks.0) e refused.breaks.1)

pub one_place : OneReading → Unbroken → RefusedOnce → (source : List ℕ) (more : Bool) (place other : ℕ) → IsRefused source more place → IsRefused source more other → place ≡ other
one_place one whole once source more place other (unread more' place' p) (unread more'' other' q) = once source more place other p q
one_place one whole once source more place other (unread more' place' p) (faulty ts m other' reads fault) = absurd (read_unrefused whole source ts m false place refl reads p)
one_place one whole once source more place other (faulty ts m place' reads fault) (unread more' other' q) = absurd (read_unrefused whole source ts m false other refl reads q)
one_place one whole once source more place other (faulty ts m place' reads fault) (faulty us n other' reads' fault') =
    let same = same_fault one source ts us m n reads reads' in
    some_same (sym fault ∙ same ∙ fault')
  where
    some_same : {a b : ℕ} → Some a ≡ Some b → a ≡ b
    some_same e = cc

pub accepted : OneReading → Unbroken → (source : List ℕ) (more : Bool) (result : Result Netlist ThinFault) → IfOk result (λ d. IsThin source d) → IfErr result (IsFault source more)
    → (d : Netlist) → IsThin source d → more ≡ false → MatchResult result (λ e. e ≡ d) (λ fault. fault ≡ Memory)
accepted one whole source more (Ok e) thin refused d is last = one_design one source e d thin is
accepted one whole source more (Err (At place)) thin refused d is last = absurd (thin_unrefused one whole source d more place last is refused)
accepted one whole source more (Err Memory) thin refused d is last = refl

pub refused : OneReading → Unbroken → RefusedOnce → (source : List ℕ) (more : Bool) (result : Result Netlist ThinFault) → IfOk result (λ d. IsThin source d) → IfOk result (λ _. more ≡ false)
    → IfErr result (IsFault source more) → (place : ℕ) → IsRefused source more place → MatchResult result (λ _. ⊥) (λ fault. (fault ≢ Memory) → fault ≡ At place)
refused one whole once source more (Ok d) thin last fault place is = thin_unrefused one whole source d more place last thin is
refused one whole once source more (Err (At other)) thin last fault place is = λ _. ap At (one_place one whole once source more other place fault is)
refused one whole once source more (Err Memory) thin last fault place is = λ other. absurd (other refl)

-- a sentence that isn't read is no module
pub fault_kept : (source : List ℕ) (more : Bool) (fault : SyntaxFault) → outcome.IsFault source more fault → IsFault source more (fault_of fault)
fault_kept source more (syntax.At place) h = unread more place h
fault_kept source more syntax.Memory h = tt

-- the first fault of a sentence
pub fault_found : (source : List ℕ) (s : Sentence) (place : ℕ) (fault : Option ℕ) → IsRead source s → fault ≡ least (faults (module_of source s.tokens.items s.module)) → sooner s.limit fault ≡ Some place → IsRefused source false place
fault_found source s place fault read e found =
    let rules : fault ≡ least (faults (printed read.tree)) = e ∙ ap (λ m. least (faults m)) read.stands in
    faulty s.tokens.items read.tree place read.reads (ap (λ o. sooner o (least (faults (printed read.tree)))) (sym read.limit) ∙ ap (sooner s.limit) (sym rules) ∙ found)

-- where there is none
pub record Faultless (source : List ℕ) (s : Sentence) (m : Module Value) : Type 0 where
  pub limit : limit_of source s.tokens.items ≡ None
  pub none : faults (printed m) ≡ []

pub faultless : (source : List ℕ) (s : Sentence) (fault : Option ℕ) → (read : IsRead source s) → fault ≡ least (faults (module_of source s.tokens.items s.module)) → sooner s.limit fault ≡ None → Faultless source s read.tree
faultless source s fault read e found =
    let both = sooner_some s.limit fault found in
    record {
      limit = sym read.limit ∙ both.0;
      none = ap faults (sym read.stands) ∙ least_none (faults (module_of source s.tokens.items s.module)) (sym e ∙ both.1);
    }

-- its design
pub thin_of : (source : List ℕ) (s : Sentence) (d : Netlist) (read : IsRead source s) → Faultless source s read.tree → d ≡ design_of read.tree → IsThin source d
thin_of source s d read free e = record {
  tokens = s.tokens.items;
  tree = read.tree;
  reads = read.reads;
  faultless = ap (λ o. sooner o (least (faults (printed read.tree)))) free.limit ∙ ap least free.none;
  design = e;
}
