-- What is read of a script, line by line, and why a script is refused.
use Rattle.std.proofs.Common.{◌≡◌, ℕ, ◌+◌, ◌≤◌, ◌^◌, arith, List, [], ◌∷◌, ◌++◌, length, refl, sym, ap, ◌∙◌, subst, false, ◌==◌, All, append_assoc, append-nil}
use Rattle.std.proofs.lemmas.Bool.Decides.{nat_tests}
use Rattle.std.proofs.lemmas.List.Elements.{All-nil, All-cons}
use Rattle.std.specs.List.Sorted.{IsStrictlyIncreasing}
use Rattle.vod_thin_design.specs.declared.thin.Vector.{Vector}
use Rattle.vod_thin_design.specs.Netlist.{Netlist}
use Rattle.vod_thin_design.specs.Vectors.{IsLawful, assigned}
use Rattle.vod_thin_design.specs.Names.{HasPlainNames}
use Rattle.vod_thin_script.specs.Pieces.{Lacks}
use Rattle.vod_thin_script.specs.Script.{IsLine, AreLines, IsWrongLine}
use Rattle.vod_thin_script.specs.declared.line.LineFault.{LineFault}
use Rattle.vod_thin_script.specs.declared.line.LineFault.TheVariants as fault
use Rattle.vod_thin_script.specs.declared.history.AddFault.{AddFault}
use Rattle.vod_thin_script.specs.declared.history.AddFault.TheVariants as add
use Rattle.vod_thin_script.specs.Fault.{IsLineFault, fault_at, line_fault_of}
use Rattle.vod_thin_script.specs.Reading.{IsVectorLine, AddsLine}
use Rattle.vod_thin_script.proofs.Lawful.{lawful_form, lawful_within}
use Rattle.vod_thin_script.proofs.Cuts.{cut_once}
use Rattle.vod_thin_script.proofs.Once.{line_once, line_lacks}

-- the script is read up to the text: its lines before it are of these vectors, which are lawful
pub record IsReadTo (d : Netlist) (script text : List ℕ) (done : List Vector) : Type 0 where
  pub front : List ℕ
  pub whole : script ≡ front ++ text
  pub lines : AreLines d front done
  pub lawful : IsLawful d done

lines_push : (d : Netlist) (front : List ℕ) (done : List Vector) (line : List ℕ) (v : Vector) → AreLines d front done → IsLine d line v → AreLines d (front ++ (line ++ 10 ∷ [])) (done ++ v ∷ [])
lines_push d front [] line v l s = (let none : front ≡ [] = l in (line, [], ap (λ f. f ++ (line ++ 10 ∷ [])) none, s, refl))
lines_push d front (w ∷ done) line v l s =
    (l.0, l.1 ++ (line ++ 10 ∷ []), ap (λ f. f ++ (line ++ 10 ∷ [])) l.2 ∙ append_assoc l.0 (10 ∷ l.1) (line ++ 10 ∷ []), l.3, lines_push d l.1 done line v l.4 s)

-- a text that is cut at its first LF
pub text_parts : (text line ending rest : List ℕ) → text ≡ line ++ ending → ending ≡ 10 ∷ rest → text ≡ line ++ 10 ∷ rest
text_parts text line ending rest e f = e ∙ ap (λ t. line ++ t) f

-- the line of a vector that is lawful somewhere
pub vector_line : (d : Netlist) (line : List ℕ) (done : List Vector) (v : Vector) → IsLine d line v → IsLawful d (done ++ v ∷ []) → IsVectorLine d line v
vector_line d line done v l lawful = record {
  spelled = l;
  form = lawful_form d done v [] lawful;
  within = lawful_within d done v [] lawful;
}

refused_added : (added : AddFault) → line_fault_of added ≡ fault.Refused → added ≡ add.Refused
refused_added add.Refused e = refl
refused_added add.Memory e = cc

-- where the vector of a line isn't added, the line is of none that is lawful there
pub not_lawful : (d : Netlist) → HasPlainNames d → (line : List ℕ) (done : List Vector) (w : Vector) → IsVectorLine d line w → (added : AddFault) (f : LineFault) → f ≡ line_fault_of added → f ≡ fault.Refused
    → (added ≡ add.Refused → IsLawful d (done ++ w ∷ []) → ⊥) → (v : Vector) → IsLine d line v → IsLawful d (done ++ v ∷ []) → ⊥
not_lawful d h line done w lw added f is refused none v l lawful =
    let own = vector_line d line done v l lawful in
    let same : v ≡ w = line_once d h line v w own.form lw.form l lw.spelled in
    none (refused_added added (sym is ∙ refused)) (subst (λ (x : Vector). IsLawful d (done ++ x ∷ [])) same lawful)

-- one more line
pub read_more : (d : Netlist) (script text : List ℕ) (done all : List Vector) (line rest : List ℕ) → IsReadTo d script text done → text ≡ line ++ 10 ∷ rest → AddsLine d line done all → IsReadTo d script rest all
read_more d script text done all line rest r e a = record {
  front = r.front ++ (line ++ 10 ∷ []);
  whole = r.whole ∙ ap (λ t. r.front ++ t) (e ∙ sym (append_assoc line (10 ∷ []) rest)) ∙ sym (append_assoc r.front (line ++ 10 ∷ []) rest);
  lines = subst (AreLines d (r.front ++ (line ++ 10 ∷ []))) (sym a.whole) (lines_push d r.front done line a.vector r.lines a.spelled);
  lawful = a.lawful;
}

-- vectors of lines have their assignments by rising input
pub lines_rise : (d : Netlist) (bytes : List ℕ) (vs : List Vector) → AreLines d bytes vs → All (λ (v : Vector). IsStrictlyIncreasing (assigned v.moves)) vs
lines_rise d bytes [] l = All-nil (λ (v : Vector). IsStrictlyIncreasing (assigned v.moves))
lines_rise d bytes (v ∷ vs) l = All-cons (λ (v : Vector). IsStrictlyIncreasing (assigned v.moves)) v vs l.3.rises (lines_rise d l.1 vs l.4)

lacks_none : (front rest : List ℕ) → Lacks 10 (front ++ 10 ∷ rest) → ⊥
lacks_none [] rest lacks = lacks.0 refl
lacks_none (b ∷ front) rest lacks = lacks_none front rest lacks.1

some : (text : List ℕ) → (length text == 0) ≡ false → text ≡ [] → ⊥
some text test none = (let size : length text ≡ 0 = ap length none in absurd (grind (arith, nat_tests)))

-- a line is wrong where what stands there is no line, or none of a vector that is lawful there
wrong : (d : Netlist) (script text : List ℕ) (done : List Vector) → length script ≤ 2 ^ 20 → IsReadTo d script text done
    → (length text == 0) ≡ false → ((line rest : List ℕ) (v : Vector) → text ≡ line ++ 10 ∷ rest → IsLine d line v → IsLawful d (done ++ v ∷ []) → ⊥)
    → (n : ℕ) → n ≡ length done → IsWrongLine d script (n + 1)
wrong d script text done short r more none n counted = record {
  short = short;
  before = r.front;
  from = text;
  whole = r.whole;
  more = some text more;
  vectors = done;
  lines = r.lines;
  lawful = r.lawful;
  wrong = none;
  number = omega (arith, counted);
}

-- a last line without LF
pub wrong_end : (d : Netlist) (script text : List ℕ) (done : List Vector) → length script ≤ 2 ^ 20 → IsReadTo d script text done
    → (line ending : List ℕ) → (length text == 0) ≡ false → text ≡ line ++ ending → Lacks 10 line → ending ≡ [] → (n : ℕ) → n ≡ length done → IsWrongLine d script (n + 1)
wrong_end d script text done short r line ending more e lacks none n counted =
    let whole : text ≡ line = e ∙ ap (λ t. line ++ t) none ∙ append-nil line in
    wrong d script text done short r more (λ front rest v at l lawful. lacks_none front rest (subst (Lacks 10) (sym whole ∙ at) lacks)) n counted

-- the line that stands there is the one before the first LF
the_line : (d : Netlist) → HasPlainNames d → (text line rest front back : List ℕ) (v : Vector) → text ≡ line ++ 10 ∷ rest → Lacks 10 line → text ≡ front ++ 10 ∷ back → IsLine d front v → IsLine d line v
the_line d h text line rest front back v e lacks at l =
    let cut = cut_once 10 front line (10 ∷ back) (10 ∷ rest) (line_lacks d h front v l) lacks refl refl (sym at ∙ e) in
    subst (λ t. IsLine d t v) cut.0 l

-- a line of no vector that is lawful there
wrong_line : (d : Netlist) → HasPlainNames d → (script text : List ℕ) (done : List Vector) → length script ≤ 2 ^ 20 → IsReadTo d script text done
    → (line rest : List ℕ) → (length text == 0) ≡ false → text ≡ line ++ 10 ∷ rest → Lacks 10 line → ((v : Vector) → IsLine d line v → IsLawful d (done ++ v ∷ []) → ⊥) → (n : ℕ) → n ≡ length done
    → IsWrongLine d script (n + 1)
wrong_line d h script text done short r line rest more e lacks none n counted =
    wrong d script text done short r more (λ front back v at l lawful. none v (the_line d h text line rest front back v e lacks at l) lawful) n counted

-- the fault of a line whose vector isn't added
pub fault_line : (d : Netlist) → HasPlainNames d → (script text : List ℕ) (done : List Vector) → length script ≤ 2 ^ 20 → IsReadTo d script text done
    → (line rest : List ℕ) → (length text == 0) ≡ false → text ≡ line ++ 10 ∷ rest → Lacks 10 line → (n : ℕ) → n ≡ length done
    → (f : LineFault) → (f ≡ fault.Refused → (v : Vector) → IsLine d line v → IsLawful d (done ++ v ∷ []) → ⊥) → IsLineFault d script (fault_at (n + 1) f)
fault_line d h script text done short r line rest more e lacks n counted fault.Refused none = wrong_line d h script text done short r line rest more e lacks (none refl) n counted
fault_line d h script text done short r line rest more e lacks n counted fault.Memory none = tt
