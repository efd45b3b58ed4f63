-- The steps of each kind of expression give its value, given that those of its operands do.
use Rattle.std.proofs.Common.{◌≡◌, ℕ, zero, suc, ◌+◌, ◌-◌, ◌≤◌, ◌<◌, ◌≢◌, max, Bool, true, false, ◌&&◌, List, [], ◌∷◌, ◌++◌, length, drop, map, flat_map, refl, sym, ◌∙◌, ap, subst, arith, append_assoc}
use Rattle.std.proofs.lemmas.List.{length-set, get_or-set_same, get_or-set_other, length-append, append-nil}
use Rattle.std.proofs.Math.Seq.{drop-append_seam}
use Rattle.vod_bits.specs.Bit.{Bit, B0, B1, BX, BZ}
use Rattle.vod_bits.specs.Value.{upper_bit}
use Rattle.vod_four.specs.Four.{truth_bit, choose_bits}
use Rattle.vod_design.specs.Values.{Operand, at_size, value_at}
use Rattle.vod_design.specs.Eval.{fold_inputs, gate_bit}
use Rattle.vod_design.specs.declared.sized.GateOp.{GateOp}
use Rattle.vod_design.specs.declared.sized.GateOp.TheVariants as gate
use Rattle.vod_compiled.specs.declared.step.Source.{Source}
use Rattle.vod_compiled.specs.declared.step.Source.TheVariants.{Cell, Constant}
use Rattle.vod_compiled.specs.declared.step.Input.{Input}
use Rattle.vod_compiled.specs.declared.step.Op.{Op}
use Rattle.vod_compiled.specs.declared.step.Op.TheVariants as op
use Rattle.vod_compiled.specs.declared.step.Step.{Step}
use Rattle.vod_eval.specs.Pieces.{lowest, gate_start, gate_table, gate_output}
use Rattle.vod_compiled.specs.Steps.{Cells, World, source_bits, input_bits, taken, at_step, truth_of, second_bits, put, where_true, where_false, after, left_out, exec}
use Rattle.vod_compiled.specs.Code.{input_at, step_at, Coded, KindCoded, at_hand, by_step, behind_one, behind_two, by_steps, second_steps, first_steps, conditional_steps, joined_steps, concat_steps, inputs_steps, gate_steps, all_flat}
use Rattle.vod_eval.specs.Room.{most}
use Rattle.vod_compiled.proofs.Cuts.{at_size_length, at_size_same, at_size_twice, one_bit, zero_size, lowest_sized, lowest_again, lowest_size}

-- a list that ends with another one
abbrev pub EndsIn : List Step → List Step → Type 0
EndsIn whole rest = (front : List Step) × (whole ≡ front ++ rest)

-- steps have run, and the cells below a place are what they were
pub record Ran (w : World) (steps rest : List Step) (d : ℕ) (cells now : Cells) : Type 0 where
  pub runs : exec w 0 steps cells ≡ exec w 0 rest now
  pub size : length now ≡ length cells
  pub kept : (n : ℕ) → n < d → value_at w.fill now n ≡ value_at w.fill cells n

pub record Ends (w : World) (steps rest : List Step) (d : ℕ) (cells : Cells) (input : Input) (value : Operand) : Type 0 where
  pub now : Cells
  pub ran : Ran w steps rest d cells now
  pub gives : taken w now input ≡ value

pub record Works (w : World) (c : Coded) (flat : Bool) (room : ℕ) (value : Operand) : Type 0 where
  pub steady : (d : ℕ) (one other : Cells) → value_at w.fill one d ≡ value_at w.fill other d → taken w one (c.input d) ≡ taken w other (c.input d)
  pub fronts : (d : ℕ) (rest : List Step) → EndsIn (c.steps d rest) rest
  pub ends : flat ≡ true → (d : ℕ) (rest : List Step) (cells : Cells) → d + room ≤ length cells → Ends w (c.steps d rest) rest d cells (c.input d) value

pub record KindEnds (w : World) (steps rest : List Step) (d : ℕ) (cells : Cells) (source : Source) (width : ℕ) (signed : Bool) (value : List Bit) : Type 0 where
  pub now : Cells
  pub ran : Ran w steps rest d cells now
  pub gives : at_size width signed (source_bits w now source) ≡ at_size width signed value

pub record KindWorks (w : World) (k : KindCoded) (flat : Bool) (room : ℕ) (value : ℕ → Bool → List Bit) : Type 0 where
  pub steady : (d : ℕ) (one other : Cells) → value_at w.fill one d ≡ value_at w.fill other d → source_bits w one (k.source d) ≡ source_bits w other (k.source d)
  pub fronts : (width : ℕ) (signed : Bool) (d : ℕ) (rest : List Step) → EndsIn (k.steps width signed d rest) rest
  pub ends : flat ≡ true → (width : ℕ) (signed : Bool) (d : ℕ) (rest : List Step) (cells : Cells) → d + room ≤ length cells
      → KindEnds w (k.steps width signed d rest) rest d cells (k.source d) width signed (value width signed)

-- fronts, one behind the other

pub no_front : (rest : List Step) → EndsIn rest rest
no_front rest = ([], refl)

pub one_front : (s : Step) (rest : List Step) → EndsIn (s ∷ rest) rest
one_front s rest = (s ∷ [], refl)

pub both_fronts : (a b c : List Step) → EndsIn a b → EndsIn b c → EndsIn a c
both_fronts a b c p q = (p.0 ++ q.0, p.1 ∙ ap (λ xs. p.0 ++ xs) q.1 ∙ sym (append_assoc p.0 q.0 c))

-- so many steps left out as stand before the end
pub skip : (w : World) (n : ℕ) (steps : List Step) (cells : Cells) → exec w n steps cells ≡ exec w 0 (drop n steps) cells
unfolding exec
skip w zero steps cells = refl
skip w (suc n) [] cells = refl
skip w (suc n) (s ∷ steps) cells = skip w n steps cells

left : (front rest : List Step) → drop (length (front ++ rest) - length rest) (front ++ rest) ≡ rest
left front rest =
    let e : length (front ++ rest) - length rest ≡ length front = omega (arith, length-append front rest) in
    rw e (drop-append_seam front rest)

left_of : (whole rest : List Step) → EndsIn whole rest → drop (length whole - length rest) whole ≡ rest
left_of whole rest f = let P : List Step → Type 0 = λ xs. drop (length xs - length rest) xs ≡ rest in subst P (sym f.1) (left f.0 rest)

pub skipped : (w : World) (whole rest : List Step) (cells : Cells) → EndsIn whole rest → exec w (length whole - length rest) whole cells ≡ exec w 0 rest cells
skipped w whole rest cells f = skip w (length whole - length rest) whole cells ∙ ap (λ xs. exec w 0 xs cells) (left_of whole rest f)

-- one step

one_step : (w : World) (s : Step) (rest : List Step) (cells now : Cells) → left_out w cells s ≡ 0 → after w cells s ≡ now → exec w 0 (s ∷ rest) cells ≡ exec w 0 rest now
unfolding exec
one_step w s rest cells now p q = ap (λ n. exec w n rest (after w cells s)) p ∙ ap (exec w 0 rest) q

jump : (w : World) (s : Step) (whole rest : List Step) (cells now : Cells) → EndsIn whole rest → left_out w cells s ≡ length whole - length rest → after w cells s ≡ now → exec w 0 (s ∷ whole) cells ≡ exec w 0 rest now
unfolding exec
jump w s whole rest cells now f p q = ap (λ n. exec w n whole (after w cells s)) p ∙ ap (exec w (length whole - length rest) whole) q ∙ skipped w whole rest now f

pub put_same : (w : World) (cells : Cells) (d : ℕ) (v : List Bit) → d < length cells → value_at w.fill (put cells d v) d ≡ v
put_same w cells d v h = get_or-set_same cells d v (w.fill ∷ []) h

pub put_kept : (w : World) (cells : Cells) (d : ℕ) (v : List Bit) (n : ℕ) → n < d → value_at w.fill (put cells d v) n ≡ value_at w.fill cells n
put_kept w cells d v n h = let ne : n ≢ d = omega arith in get_or-set_other cells d n v (w.fill ∷ []) ne

pub ran_none : (w : World) (rest : List Step) (d : ℕ) (cells : Cells) → Ran w rest rest d cells cells
ran_none w rest d cells = record { runs = refl; size = refl; kept = λ n h. refl }

-- steps, and then one that fills the first cell
ran_more : (w : World) (steps rest : List Step) (s : Step) (d : ℕ) (cells now : Cells) (v : List Bit) → Ran w steps (s ∷ rest) d cells now → left_out w now s ≡ 0 → after w now s ≡ put now d v → Ran w steps rest d cells (put now d v)
ran_more w steps rest s d cells now v r p q = record {
  runs = r.runs ∙ one_step w s rest now (put now d v) p q;
  size = length-set now d v ∙ r.size;
  kept = λ n h. put_kept w now d v n h ∙ r.kept n h;
}

-- steps behind others, which keep as much
pub ran_both : (w : World) (a b c : List Step) (d e : ℕ) (one two three : Cells) → d ≤ e → Ran w a b d one two → Ran w b c e two three → Ran w a c d one three
ran_both w a b c d e one two three le p q = record {
  runs = p.runs ∙ q.runs;
  size = q.size ∙ p.size;
  kept = λ n h. let below : n < e = omega arith in q.kept n below ∙ p.kept n h;
}

-- kinds

pub hand_works : (w : World) (source : Source) (value : ℕ → Bool → List Bit) → ((cells : Cells) (width : ℕ) (signed : Bool) → source_bits w cells source ≡ value width signed) → KindWorks w (at_hand source) true 0 value
hand_works w source value h = record {
  steady = λ d one other e. h one 1 true ∙ sym (h other 1 true);
  fronts = λ width signed d rest. no_front rest;
  ends = λ yes_flat width signed d rest cells r. record { now = cells; ran = ran_none w rest d cells; gives = ap (at_size width signed) (h cells width signed) };
}

pub step_works : (w : World) (o : Op) (value : ℕ → Bool → List Bit)
    → ((d width : ℕ) (signed : Bool) (cells : Cells) → left_out w cells (step_at d width signed o) ≡ 0)
    → ((d width : ℕ) (signed : Bool) (cells : Cells) → after w cells (step_at d width signed o) ≡ put cells d (value width signed)) → KindWorks w (by_step o) true 1 value
step_works w o value p q = record {
  steady = λ d one other e. e;
  fronts = λ width signed d rest. one_front (step_at d width signed o) rest;
  ends = λ flat width signed d rest cells r.
      record {
        now = put cells d (value width signed);
        ran = ran_more w (step_at d width signed o ∷ rest) rest (step_at d width signed o) d cells cells (value width signed) (ran_none w (step_at d width signed o ∷ rest) d cells) (p d width signed cells) (q d width signed cells);
        gives = ap (at_size width signed) (put_same w cells d (value width signed) (omega arith));
      };
}

-- one operand, and then a step

abbrev pub OneStep : World → (Input → Op) → (ℕ → Bool → Operand → List Bit) → Type 0
OneStep w o f = (d width : ℕ) (signed : Bool) (cells : Cells) (a : Input) → (left_out w cells (step_at d width signed (o a)) ≡ 0) × (after w cells (step_at d width signed (o a)) ≡ put cells d (f width signed (taken w cells a)))

one_ends : (w : World) (c : Coded) (room : ℕ) (v : Operand) (o : Input → Op) (f : ℕ → Bool → Operand → List Bit) → OneStep w o f
    → (width : ℕ) (signed : Bool) (d : ℕ) (rest : List Step) (cells : Cells) → d + max 1 room ≤ length cells
    → Ends w (c.steps d (step_at d width signed (o (c.input d)) ∷ rest)) (step_at d width signed (o (c.input d)) ∷ rest) d cells (c.input d) v
    → KindEnds w (c.steps d (step_at d width signed (o (c.input d)) ∷ rest)) rest d cells (Cell d) width signed (f width signed v)
one_ends w c room v o f law width signed d rest cells r e =
    let s : Step = step_at d width signed (o (c.input d)) in
    let laws = law d width signed e.now (c.input d) in
    let becomes : after w e.now s ≡ put e.now d (f width signed v) = laws.1 ∙ ap (λ x. put e.now d (f width signed x)) e.gives in
    let inside : d < length e.now = omega (arith, e.ran.size) in
    record {
      now = put e.now d (f width signed v);
      ran = ran_more w (c.steps d (s ∷ rest)) rest s d cells e.now (f width signed v) e.ran laws.0 becomes;
      gives = ap (at_size width signed) (put_same w e.now d (f width signed v) inside);
    }

pub one_works : (w : World) (c : Coded) (flat : Bool) (room : ℕ) (v : Operand) (o : Input → Op) (f : ℕ → Bool → Operand → List Bit) → OneStep w o f
    → Works w c flat room v → KindWorks w (behind_one c o) flat (max 1 room) (λ width signed. f width signed v)
one_works w c flat room v o f law a = record {
  steady = λ d one other e. e;
  fronts = λ width signed d rest.
      both_fronts _ _ rest (a.fronts d (step_at d width signed (o (c.input d)) ∷ rest)) (one_front (step_at d width signed (o (c.input d))) rest);
  ends = λ is width signed d rest cells r.
      one_ends w c room v o f law width signed d rest cells r (a.ends is d (step_at d width signed (o (c.input d)) ∷ rest) cells (omega arith));
}

-- two operands, and then a step

abbrev pub TwoStep : World → (Input → Input → Op) → (ℕ → Bool → Operand → Operand → List Bit) → Type 0
TwoStep w o f = (d width : ℕ) (signed : Bool) (cells : Cells) (a b : Input)
    → (left_out w cells (step_at d width signed (o a b)) ≡ 0) × (after w cells (step_at d width signed (o a b)) ≡ put cells d (f width signed (taken w cells a) (taken w cells b)))

pub and_left : (a b : Bool) → (a && b) ≡ true → a ≡ true
and_left true b h = refl
and_left false b h = h

pub and_right : (a b : Bool) → (a && b) ≡ true → b ≡ true
and_right true b h = h
and_right false b h = absurd (cc)

two_ends : (w : World) (c e : Coded) (fc : Bool) (rc re : ℕ) (vc ve : Operand) (o : Input → Input → Op) (f : ℕ → Bool → Operand → Operand → List Bit) → TwoStep w o f
    → Works w c fc rc vc
    → (width : ℕ) (signed : Bool) (d : ℕ) (rest : List Step) (cells : Cells) → d + max rc (1 + re) ≤ length cells
    → (one : Ends w (c.steps d (e.steps (suc d) (step_at d width signed (o (c.input d) (e.input (suc d))) ∷ rest))) (e.steps (suc d) (step_at d width signed (o (c.input d) (e.input (suc d))) ∷ rest)) d cells (c.input d) vc)
    → Ends w (e.steps (suc d) (step_at d width signed (o (c.input d) (e.input (suc d))) ∷ rest)) (step_at d width signed (o (c.input d) (e.input (suc d))) ∷ rest) (suc d) one.now (e.input (suc d)) ve
    → KindEnds w (c.steps d (e.steps (suc d) (step_at d width signed (o (c.input d) (e.input (suc d))) ∷ rest))) rest d cells (Cell d) width signed (f width signed vc ve)
two_ends w c e fc rc re vc ve o f law a width signed d rest cells r one two =
    let s : Step = step_at d width signed (o (c.input d) (e.input (suc d))) in
    let laws = law d width signed two.now (c.input d) (e.input (suc d)) in
    let still : taken w two.now (c.input d) ≡ vc = a.steady d two.now one.now (two.ran.kept d (omega arith)) ∙ one.gives in
    let becomes : after w two.now s ≡ put two.now d (f width signed vc ve) =
    laws.1 ∙ ap (λ x. put two.now d (f width signed x (taken w two.now (e.input (suc d))))) still ∙ ap (λ x. put two.now d (f width signed vc x)) two.gives in
    let inside : d < length two.now = omega (arith, two.ran.size, one.ran.size) in
    let both = ran_both w (c.steps d (e.steps (suc d) (s ∷ rest))) (e.steps (suc d) (s ∷ rest)) (s ∷ rest) d (suc d) cells one.now two.now (omega arith) one.ran two.ran in
    record {
      now = put two.now d (f width signed vc ve);
      ran = ran_more w (c.steps d (e.steps (suc d) (s ∷ rest))) rest s d cells two.now (f width signed vc ve) both laws.0 becomes;
      gives = ap (at_size width signed) (put_same w two.now d (f width signed vc ve) inside);
    }

pub two_works : (w : World) (c e : Coded) (fc fe : Bool) (rc re : ℕ) (vc ve : Operand) (o : Input → Input → Op) (f : ℕ → Bool → Operand → Operand → List Bit) → TwoStep w o f
    → Works w c fc rc vc → Works w e fe re ve → KindWorks w (behind_two c e o) (fc && fe) (max rc (1 + re)) (λ width signed. f width signed vc ve)
two_works w c e fc fe rc re vc ve o f law a b = record {
  steady = λ d one other e. e;
  fronts = λ width signed d rest.
      let s : Step = step_at d width signed (o (c.input d) (e.input (suc d))) in
      both_fronts _ _ rest (a.fronts d (e.steps (suc d) (s ∷ rest))) (both_fronts _ _ rest (b.fronts (suc d) (s ∷ rest)) (one_front s rest));
  ends = λ is width signed d rest cells r.
      let s : Step = step_at d width signed (o (c.input d) (e.input (suc d))) in
      let one = a.ends (and_left fc fe is) d (e.steps (suc d) (s ∷ rest)) cells (omega arith) in
      let two = b.ends (and_right fc fe is) (suc d) (s ∷ rest) one.now (omega (arith, one.ran.size)) in
      two_ends w c e fc rc re vc ve o f law a width signed d rest cells r one two;
}

-- the conditional

-- the second branch, where the test isn't true
second_ends : (w : World) (b : Coded) (fb : Bool) (rb : ℕ) (vb : Operand) → Works w b fb rb vb → (test : Input) → (width : ℕ) (signed : Bool) (d : ℕ) (rest : List Step) (cells : Cells) (t : Bit)
    → fb ≡ true → suc (suc d) + rb ≤ length cells → ((now : Cells) → ((n : ℕ) → n < suc d → value_at w.fill now n ≡ value_at w.fill cells n) → truth_of w now test ≡ t)
    → (now : Cells) × Ran w (second_steps width signed d test b rest) rest d cells now × (value_at w.fill now d ≡ choose_bits t (at_size width signed (value_at w.fill cells (d + 1))) (at_size width signed vb.bits))
second_ends w b fb rb vb works test width signed d rest cells t is room truth =
    let s : Step = step_at d width signed (op.Second test (b.input (suc (suc d)))) in
    let e = works.ends is (suc (suc d)) (s ∷ rest) cells room in
    let v : List Bit = choose_bits t (at_size width signed (value_at w.fill cells (d + 1))) (at_size width signed vb.bits) in
    let still : truth_of w e.now test ≡ t = truth e.now (λ n h. e.ran.kept n (omega arith)) in
    let first : value_at w.fill e.now (d + 1) ≡ value_at w.fill cells (d + 1) = e.ran.kept (d + 1) (omega arith) in
    let given : input_bits w e.now (b.input (suc (suc d))) ≡ vb.bits = ap (λ (o : Operand). o.bits) e.gives in
    let becomes : second_bits w e.now s test (b.input (suc (suc d))) ≡ v =
    ap (λ x. choose_bits x (at_size width signed (value_at w.fill e.now (d + 1))) (at_size width signed (input_bits w e.now (b.input (suc (suc d)))))) still
    ∙ ap (λ x. choose_bits t (at_size width signed x) (at_size width signed (input_bits w e.now (b.input (suc (suc d)))))) first
    ∙ ap (λ x. choose_bits t (at_size width signed (value_at w.fill cells (d + 1))) (at_size width signed x)) given in
    let inside : d < length e.now = omega (arith, e.ran.size) in
    let lower : Ran w (b.steps (suc (suc d)) (s ∷ rest)) (s ∷ rest) d cells e.now =
    record { runs = e.ran.runs; size = e.ran.size; kept = λ n h. e.ran.kept n (omega arith) } in
    (put e.now d v, ran_more w (b.steps (suc (suc d)) (s ∷ rest)) rest s d cells e.now v lower refl (ap (put e.now d) becomes), put_same w e.now d v inside)

-- a step that changes no cell and leaves out nothing, and one that leaves out what stands before an end
ran_step : (w : World) (s : Step) (rest : List Step) (d : ℕ) (cells : Cells) → left_out w cells s ≡ 0 → after w cells s ≡ cells → Ran w (s ∷ rest) rest d cells cells
ran_step w s rest d cells p q = record { runs = one_step w s rest cells cells p q; size = refl; kept = λ n h. refl }

ran_jump : (w : World) (s : Step) (whole rest : List Step) (d : ℕ) (cells : Cells) → EndsIn whole rest → left_out w cells s ≡ length whole - length rest → after w cells s ≡ cells → Ran w (s ∷ whole) rest d cells cells
ran_jump w s whole rest d cells f p q = record { runs = jump w s whole rest cells cells f p q; size = refl; kept = λ n h. refl }

-- a step that fills a cell, and leaves out what stands before an end
ran_fill : (w : World) (steps whole rest : List Step) (s : Step) (d : ℕ) (cells now : Cells) (v : List Bit) → Ran w steps (s ∷ whole) d cells now → EndsIn whole rest
    → left_out w now s ≡ length whole - length rest → after w now s ≡ put now d v → Ran w steps rest d cells (put now d v)
ran_fill w steps whole rest s d cells now v r f p q = record {
  runs = r.runs ∙ jump w s whole rest now (put now d v) f p q;
  size = length-set now d v ∙ r.size;
  kept = λ n h. put_kept w now d v n h ∙ r.kept n h;
}

-- the same into the cell behind, where nothing is left out
ran_behind : (w : World) (steps rest : List Step) (s : Step) (d : ℕ) (cells now : Cells) (v : List Bit) → Ran w steps (s ∷ rest) (suc d) cells now
    → left_out w now s ≡ 0 → after w now s ≡ put now (d + 1) v → Ran w steps rest (suc d) cells (put now (d + 1) v)
ran_behind w steps rest s d cells now v r p q = record {
  runs = r.runs ∙ one_step w s rest now (put now (d + 1) v) p q;
  size = length-set now (d + 1) v ∙ r.size;
  kept = λ n h. put_kept w now (d + 1) v n (omega arith) ∙ r.kept n h;
}

-- what the branches of a conditional stand for
pub record Branches (w : World) (a b : Coded) (fa fb : Bool) (ra rb : ℕ) (va vb : Operand) : Type 0 where
  pub first : Works w a fa ra va
  pub second : Works w b fb rb vb

abbrev chosen : Bit → ℕ → Bool → Operand → Operand → List Bit
chosen t width signed va vb = choose_bits t (at_size width signed va.bits) (at_size width signed vb.bits)

second_front : (w : World) (b : Coded) (fb : Bool) (rb : ℕ) (vb : Operand) → Works w b fb rb vb → (width : ℕ) (signed : Bool) (d : ℕ) (test : Input) (rest : List Step) → EndsIn (second_steps width signed d test b rest) rest
second_front w b fb rb vb works width signed d test rest =
    let s : Step = step_at d width signed (op.Second test (b.input (suc (suc d)))) in
    both_fronts _ _ rest (works.fronts (suc (suc d)) (s ∷ rest)) (one_front s rest)

first_front : (w : World) (a : Coded) (fa : Bool) (ra : ℕ) (va : Operand) → Works w a fa ra va → (width : ℕ) (signed : Bool) (d : ℕ) (test : Input) (second rest : List Step) → EndsIn (first_steps width signed d test a second rest) second
first_front w a fa ra va works width signed d test second rest =
    let s : Step = step_at d width signed (op.First test (a.input (suc d)) (length second - length rest)) in
    both_fronts _ _ second (works.fronts (suc d) (s ∷ second)) (one_front s second)

when_false : (w : World) (a b : Coded) (fa fb : Bool) (ra rb : ℕ) (va vb : Operand) → Branches w a b fa fb ra rb va vb → fb ≡ true → (test : Input)
    → (width : ℕ) (signed : Bool) (d : ℕ) (rest : List Step) (cells : Cells) → suc (suc d) + rb ≤ length cells
    → ((now : Cells) → ((n : ℕ) → n < suc d → value_at w.fill now n ≡ value_at w.fill cells n) → truth_of w now test ≡ B0)
    → (now : Cells)
    × Ran w (step_at d width signed (op.Test test (length (first_steps width signed d test a (second_steps width signed d test b rest) rest) - length (second_steps width signed d test b rest))) ∷ first_steps width signed d test a (second_steps width signed d test b rest) rest) rest d cells now
    × (value_at w.fill now d ≡ chosen B0 width signed va vb)
when_false w a b fa fb ra rb va vb both is test width signed d rest cells room truth =
    let second : List Step = second_steps width signed d test b rest in
    let first : List Step = first_steps width signed d test a second rest in
    let s : Step = step_at d width signed (op.Test test (length first - length second)) in
    let left : left_out w cells s ≡ length first - length second = ap (λ t. where_false t (length first - length second) 0) (truth cells (λ n h. refl)) in
    let over = ran_jump w s first second d cells (first_front w a fa ra va both.first width signed d test second rest) left refl in
    let e = second_ends w b fb rb vb both.second test width signed d rest cells B0 is room truth in
    (e.0, ran_both w (s ∷ first) second rest d d cells cells e.0 (omega arith) over e.1, e.2)

when_true : (w : World) (a b : Coded) (fa fb : Bool) (ra rb : ℕ) (va vb : Operand) → Branches w a b fa fb ra rb va vb → fa ≡ true → (test : Input)
    → (width : ℕ) (signed : Bool) (d : ℕ) (rest : List Step) (cells : Cells) → suc d + ra ≤ length cells
    → ((now : Cells) → ((n : ℕ) → n < suc d → value_at w.fill now n ≡ value_at w.fill cells n) → truth_of w now test ≡ B1)
    → (now : Cells)
    × Ran w (step_at d width signed (op.Test test (length (first_steps width signed d test a (second_steps width signed d test b rest) rest) - length (second_steps width signed d test b rest))) ∷ first_steps width signed d test a (second_steps width signed d test b rest) rest) rest d cells now
    × (value_at w.fill now d ≡ chosen B1 width signed va vb)
when_true w a b fa fb ra rb va vb both is test width signed d rest cells room truth =
    let second : List Step = second_steps width signed d test b rest in
    let first : List Step = first_steps width signed d test a second rest in
    let s : Step = step_at d width signed (op.Test test (length first - length second)) in
    let f : Step = step_at d width signed (op.First test (a.input (suc d)) (length second - length rest)) in
    let none : left_out w cells s ≡ 0 = ap (λ t. where_false t (length first - length second) 0) (truth cells (λ n h. refl)) in
    let tested = ran_step w s first d cells none refl in
    let e = both.first.ends is (suc d) (f ∷ second) cells room in
    let v : List Bit = at_size width signed va.bits in
    let still : truth_of w e.now test ≡ B1 = truth e.now e.ran.kept in
    let given : at_step w e.now f (a.input (suc d)) ≡ v = ap (λ (o : Operand). at_size width signed o.bits) e.gives in
    let left : left_out w e.now f ≡ length second - length rest = ap (λ t. where_true t (length second - length rest) 0) still in
    let becomes : after w e.now f ≡ put e.now d v =
    ap (λ t. where_true t (put e.now d (at_step w e.now f (a.input (suc d)))) (put e.now (d + 1) (at_step w e.now f (a.input (suc d))))) still ∙ ap (put e.now d) given in
    let lower : Ran w first (f ∷ second) d cells e.now = record { runs = e.ran.runs; size = e.ran.size; kept = λ n h. e.ran.kept n (omega arith) } in
    let filled = ran_fill w first second rest f d cells e.now v lower (second_front w b fb rb vb both.second width signed d test rest) left becomes in
    let inside : d < length e.now = omega (arith, e.ran.size) in
    (put e.now d v, ran_both w (s ∷ first) first rest d d cells cells (put e.now d v) (omega arith) tested filled, put_same w e.now d v inside)

-- a truth that is neither
pub record InDoubt (t : Bit) : Type 0 where
  pub count : (n : ℕ) → where_true t n 0 ≡ 0
  pub stays : (n : ℕ) → where_false t n 0 ≡ 0
  pub other : (one two : Cells) → where_true t one two ≡ two

when_unknown : (w : World) (a b : Coded) (fa fb : Bool) (ra rb : ℕ) (va vb : Operand) → Branches w a b fa fb ra rb va vb → fa ≡ true → fb ≡ true → (test : Input) (t : Bit) → InDoubt t
    → (width : ℕ) (signed : Bool) (d : ℕ) (rest : List Step) (cells : Cells) → suc d + ra ≤ length cells → suc (suc d) + rb ≤ length cells
    → ((now : Cells) → ((n : ℕ) → n < suc d → value_at w.fill now n ≡ value_at w.fill cells n) → truth_of w now test ≡ t)
    → (now : Cells)
    × Ran w (step_at d width signed (op.Test test (length (first_steps width signed d test a (second_steps width signed d test b rest) rest) - length (second_steps width signed d test b rest))) ∷ first_steps width signed d test a (second_steps width signed d test b rest) rest) rest d cells now
    × (value_at w.fill now d ≡ chosen t width signed va vb)
when_unknown w a b fa fb ra rb va vb both is_a is_b test t doubt width signed d rest cells room_a room_b truth =
    let second : List Step = second_steps width signed d test b rest in
    let first : List Step = first_steps width signed d test a second rest in
    let s : Step = step_at d width signed (op.Test test (length first - length second)) in
    let f : Step = step_at d width signed (op.First test (a.input (suc d)) (length second - length rest)) in
    let none : left_out w cells s ≡ 0 = ap (λ x. where_false x (length first - length second) 0) (truth cells (λ n h. refl)) ∙ doubt.stays (length first - length second) in
    let tested = ran_step w s first d cells none refl in
    let e = both.first.ends is_a (suc d) (f ∷ second) cells room_a in
    let v : List Bit = at_size width signed va.bits in
    let still : truth_of w e.now test ≡ t = truth e.now e.ran.kept in
    let given : at_step w e.now f (a.input (suc d)) ≡ v = ap (λ (o : Operand). at_size width signed o.bits) e.gives in
    let left : left_out w e.now f ≡ 0 = ap (λ x. where_true x (length second - length rest) 0) still ∙ doubt.count (length second - length rest) in
    let becomes : after w e.now f ≡ put e.now (d + 1) v =
    ap (λ x. where_true x (put e.now d (at_step w e.now f (a.input (suc d)))) (put e.now (d + 1) (at_step w e.now f (a.input (suc d))))) still
    ∙ doubt.other (put e.now d (at_step w e.now f (a.input (suc d)))) (put e.now (d + 1) (at_step w e.now f (a.input (suc d))))
    ∙ ap (put e.now (d + 1)) given in
    let filled = ran_behind w first second f d cells e.now v e.ran left becomes in
    let next : Cells = put e.now (d + 1) v in
    let room : suc (suc d) + rb ≤ length next = omega (arith, filled.size) in
    let truth_next : (now : Cells) → ((n : ℕ) → n < suc d → value_at w.fill now n ≡ value_at w.fill next n) → truth_of w now test ≡ t = λ now k. truth now (λ n h. k n h ∙ filled.kept n h) in
    let g = second_ends w b fb rb vb both.second test width signed d rest next t is_b room truth_next in
    let inside : d + 1 < length e.now = omega (arith, e.ran.size) in
    let held : at_size width signed (value_at w.fill next (d + 1)) ≡ v = ap (at_size width signed) (put_same w e.now (d + 1) v inside) ∙ at_size_twice width signed va.bits in
    let lower : Ran w first second d cells next = record { runs = filled.runs; size = filled.size; kept = λ n h. filled.kept n (omega arith) } in
    let ran = ran_both w (s ∷ first) first rest d d cells cells g.0 (omega arith) tested (ran_both w first second rest d d cells next g.0 (omega arith) lower g.1) in
    (g.0, ran, g.2 ∙ ap (λ x. choose_bits t x (at_size width signed vb.bits)) held)

doubt_x : InDoubt BX
doubt_x = record { count = λ n. refl; stays = λ n. refl; other = λ one two. refl }

doubt_z : InDoubt BZ
doubt_z = record { count = λ n. refl; stays = λ n. refl; other = λ one two. refl }

branches_end : (w : World) (a b : Coded) (fa fb : Bool) (ra rb : ℕ) (va vb : Operand) → Branches w a b fa fb ra rb va vb → fa ≡ true → fb ≡ true → (test : Input) (t : Bit)
    → (width : ℕ) (signed : Bool) (d : ℕ) (rest : List Step) (cells : Cells) → suc d + ra ≤ length cells → suc (suc d) + rb ≤ length cells
    → ((now : Cells) → ((n : ℕ) → n < suc d → value_at w.fill now n ≡ value_at w.fill cells n) → truth_of w now test ≡ t)
    → (now : Cells)
    × Ran w (step_at d width signed (op.Test test (length (first_steps width signed d test a (second_steps width signed d test b rest) rest) - length (second_steps width signed d test b rest))) ∷ first_steps width signed d test a (second_steps width signed d test b rest) rest) rest d cells now
    × (value_at w.fill now d ≡ chosen t width signed va vb)
branches_end w a b fa fb ra rb va vb both is_a is_b test B0 width signed d rest cells room_a room_b truth = when_false w a b fa fb ra rb va vb both is_b test width signed d rest cells room_b truth
branches_end w a b fa fb ra rb va vb both is_a is_b test B1 width signed d rest cells room_a room_b truth = when_true w a b fa fb ra rb va vb both is_a test width signed d rest cells room_a truth
branches_end w a b fa fb ra rb va vb both is_a is_b test BX width signed d rest cells room_a room_b truth = when_unknown w a b fa fb ra rb va vb both is_a is_b test BX doubt_x width signed d rest cells room_a room_b truth
branches_end w a b fa fb ra rb va vb both is_a is_b test BZ width signed d rest cells room_a room_b truth = when_unknown w a b fa fb ra rb va vb both is_a is_b test BZ doubt_z width signed d rest cells room_a room_b truth

conditional_ends : (w : World) (t a b : Coded) (ft fa fb : Bool) (rt ra rb : ℕ) (vt va vb : Operand) → Works w t ft rt vt → Branches w a b fa fb ra rb va vb → ft ≡ true → fa ≡ true → fb ≡ true
    → (width : ℕ) (signed : Bool) (d : ℕ) (rest : List Step) (cells : Cells) → d + max rt (1 + max ra (1 + rb)) ≤ length cells
    → KindEnds w (conditional_steps t a b width signed d rest) rest d cells (Cell d) width signed (chosen (truth_bit vt.bits) width signed va vb)
conditional_ends w t a b ft fa fb rt ra rb vt va vb test both is_t is_a is_b width signed d rest cells room =
    let second : List Step = second_steps width signed d (t.input d) b rest in
    let first : List Step = first_steps width signed d (t.input d) a second rest in
    let s : Step = step_at d width signed (op.Test (t.input d) (length first - length second)) in
    let e = test.ends is_t d (s ∷ first) cells (omega arith) in
    let truth : (now : Cells) → ((n : ℕ) → n < suc d → value_at w.fill now n ≡ value_at w.fill e.now n) → truth_of w now (t.input d) ≡ truth_bit vt.bits =
    λ now k. ap (λ (o : Operand). truth_bit o.bits) (test.steady d now e.now (k d (omega arith)) ∙ e.gives) in
    let size : length e.now ≡ length cells = e.ran.size in
    let g = branches_end w a b fa fb ra rb va vb both is_a is_b (t.input d) (truth_bit vt.bits) width signed d rest e.now (omega arith) (omega arith) truth in
    record {
      now = g.0;
      ran = ran_both w (t.steps d (s ∷ first)) (s ∷ first) rest d d cells e.now g.0 (omega arith) e.ran g.1;
      gives = ap (at_size width signed) g.2;
    }

conditional_front : (w : World) (t a b : Coded) (ft fa fb : Bool) (rt ra rb : ℕ) (vt va vb : Operand) → Works w t ft rt vt → Branches w a b fa fb ra rb va vb
    → (width : ℕ) (signed : Bool) (d : ℕ) (rest : List Step) → EndsIn (conditional_steps t a b width signed d rest) rest
conditional_front w t a b ft fa fb rt ra rb vt va vb test both width signed d rest =
    let second : List Step = second_steps width signed d (t.input d) b rest in
    let first : List Step = first_steps width signed d (t.input d) a second rest in
    let s : Step = step_at d width signed (op.Test (t.input d) (length first - length second)) in
    both_fronts _ _ rest (test.fronts d (s ∷ first))
    (both_fronts _ _ rest (one_front s first)
    (both_fronts _ _ rest (first_front w a fa ra va both.first width signed d (t.input d) second rest) (second_front w b fb rb vb both.second width signed d (t.input d) rest)))

pub conditional_works : (w : World) (t a b : Coded) (ft fa fb : Bool) (rt ra rb : ℕ) (vt va vb : Operand) → Works w t ft rt vt → Works w a fa ra va → Works w b fb rb vb
    → KindWorks w (by_steps (conditional_steps t a b)) (ft && (fa && fb)) (max rt (1 + max ra (1 + rb))) (λ width signed. chosen (truth_bit vt.bits) width signed va vb)
conditional_works w t a b ft fa fb rt ra rb vt va vb test first second =
    let both : Branches w a b fa fb ra rb va vb = record { first = first; second = second } in
    record {
      steady = λ d one other e. e;
      fronts = λ width signed d rest. conditional_front w t a b ft fa fb rt ra rb vt va vb test both width signed d rest;
      ends = λ is width signed d rest cells room.
          let more : (fa && fb) ≡ true = and_right ft (fa && fb) is in
          conditional_ends w t a b ft fa fb rt ra rb vt va vb test both (and_left ft (fa && fb) is) (and_left fa fb more) (and_right fa fb more) width signed d rest cells room;
    }

-- parts one behind the other

pub record Part (w : World) : Type 0 where
  pub code : Coded
  pub flat : Bool
  pub room : ℕ
  pub value : Operand
  pub works : Works w code flat room value

abbrev pub codes : {w : World} → List (Part w) → List Coded
codes ps = map (λ p. p.code) ps

abbrev pub flats : {w : World} → List (Part w) → List Bool
flats ps = map (λ p. p.flat) ps

abbrev pub rooms : {w : World} → List (Part w) → List ℕ
rooms ps = map (λ p. p.room) ps

abbrev pub values : {w : World} → List (Part w) → List Operand
values ps = map (λ p. p.value) ps

abbrev pub bits_behind : List Operand → List Bit
bits_behind os = flat_map (λ (o : Operand). o.bits) os

joined_front : (w : World) (width : ℕ) (signed : Bool) (d : ℕ) (ps : List (Part w)) (rest : List Step) → EndsIn (joined_steps width signed d (codes ps) rest) rest
joined_front w width signed d [] rest = no_front rest
joined_front w width signed d (p ∷ ps) rest =
    let s : Step = step_at d width signed (op.Join (p.code.input (suc d))) in
    let more : List Step = joined_steps width signed d (codes ps) rest in
    both_fronts _ _ rest (p.works.fronts (suc d) (s ∷ more)) (both_fronts _ _ rest (one_front s more) (joined_front w width signed d ps rest))

joined_end : (w : World) (width : ℕ) (signed : Bool) (d : ℕ) (ps : List (Part w)) (rest : List Step) (cells : Cells) (upper : List Bit)
    → all_flat (flats ps) ≡ true → suc d + most (rooms ps) ≤ length cells → value_at w.fill cells d ≡ lowest upper
    → (now : Cells) × Ran w (joined_steps width signed d (codes ps) rest) rest d cells now × (value_at w.fill now d ≡ lowest (upper ++ bits_behind (values ps)))
joined_end w width signed d [] rest cells upper is room h = (cells, ran_none w rest d cells, h ∙ ap lowest (sym (append-nil upper)))
joined_end w width signed d (p ∷ ps) rest cells upper is room h =
    let s : Step = step_at d width signed (op.Join (p.code.input (suc d))) in
    let more : List Step = joined_steps width signed d (codes ps) rest in
    let e = p.works.ends (and_left p.flat (all_flat (flats ps)) is) (suc d) (s ∷ more) cells (omega arith) in
    let v : List Bit = lowest (upper ++ p.value.bits) in
    let held : value_at w.fill e.now d ≡ lowest upper = e.ran.kept d (omega arith) ∙ h in
    let given : input_bits w e.now (p.code.input (suc d)) ≡ p.value.bits = ap (λ (o : Operand). o.bits) e.gives in
    let becomes : after w e.now s ≡ put e.now d v =
    ap (λ x. put e.now d (lowest (x ++ input_bits w e.now (p.code.input (suc d))))) held ∙ ap (λ x. put e.now d (lowest (lowest upper ++ x))) given ∙ ap (put e.now d) (lowest_again upper p.value.bits) in
    let lower : Ran w (p.code.steps (suc d) (s ∷ more)) (s ∷ more) d cells e.now = record { runs = e.ran.runs; size = e.ran.size; kept = λ n h. e.ran.kept n (omega arith) } in
    let ran = ran_more w (p.code.steps (suc d) (s ∷ more)) more s d cells e.now v lower refl becomes in
    let next : Cells = put e.now d v in
    let fits : suc d + most (rooms ps) ≤ length next = omega (arith, ran.size) in
    let g = joined_end w width signed d ps rest next (upper ++ p.value.bits) (and_right p.flat (all_flat (flats ps)) is) fits (put_same w e.now d v (omega (arith, e.ran.size))) in
    (g.0, ran_both w (p.code.steps (suc d) (s ∷ more)) more rest d d cells next g.0 (omega arith) ran g.1, g.2 ∙ ap lowest (append_assoc upper p.value.bits (bits_behind (values ps))))

concat_front : (w : World) (width : ℕ) (signed : Bool) (d : ℕ) (ps : List (Part w)) (rest : List Step) → EndsIn (concat_steps (codes ps) width signed d rest) rest
concat_front w width signed d [] rest = one_front (step_at d width signed (op.Copy (input_at (Constant (B0 ∷ [])) 1 false))) rest
concat_front w width signed d (p ∷ ps) rest =
    let s : Step = step_at d width signed (op.Copy (p.code.input d)) in
    let more : List Step = joined_steps width signed d (codes ps) rest in
    both_fronts _ _ rest (p.works.fronts d (s ∷ more)) (both_fronts _ _ rest (one_front s more) (joined_front w width signed d ps rest))

concat_end : (w : World) (width : ℕ) (signed : Bool) (d : ℕ) (ps : List (Part w)) (rest : List Step) (cells : Cells) → all_flat (flats ps) ≡ true → d + (1 + most (rooms ps)) ≤ length cells
    → KindEnds w (concat_steps (codes ps) width signed d rest) rest d cells (Cell d) width signed (bits_behind (values ps))
concat_end w width signed d [] rest cells is room =
    let zero_bit : Input = input_at (Constant (B0 ∷ [])) 1 false in
    let s : Step = step_at d width signed (op.Copy zero_bit) in
    record {
      now = put cells d (at_size 1 false (B0 ∷ []));
      ran = ran_more w (s ∷ rest) rest s d cells cells (at_size 1 false (B0 ∷ [])) (ran_none w (s ∷ rest) d cells) refl refl;
      gives = ap (at_size width signed) (put_same w cells d (at_size 1 false (B0 ∷ [])) (omega arith) ∙ at_size_same 1 false (B0 ∷ []) refl) ∙ zero_size width signed;
    }
concat_end w width signed d (p ∷ ps) rest cells is room =
    let s : Step = step_at d width signed (op.Copy (p.code.input d)) in
    let more : List Step = joined_steps width signed d (codes ps) rest in
    let e = p.works.ends (and_left p.flat (all_flat (flats ps)) is) d (s ∷ more) cells (omega arith) in
    let i : Input = p.code.input d in
    let given : input_bits w e.now i ≡ p.value.bits = ap (λ (o : Operand). o.bits) e.gives in
    let v : List Bit = input_bits w e.now i in
    let sized : v ≡ lowest p.value.bits = sym (lowest_sized i.width i.signed (source_bits w e.now i.source)) ∙ ap lowest given in
    let ran = ran_more w (p.code.steps d (s ∷ more)) more s d cells e.now v e.ran refl refl in
    let next : Cells = put e.now d v in
    let fits : suc d + most (rooms ps) ≤ length next = omega (arith, ran.size) in
    let g = joined_end w width signed d ps rest next p.value.bits (and_right p.flat (all_flat (flats ps)) is) fits (put_same w e.now d v (omega (arith, e.ran.size)) ∙ sized) in
    record {
      now = g.0;
      ran = ran_both w (p.code.steps d (s ∷ more)) more rest d d cells next g.0 (omega arith) ran g.1;
      gives = ap (at_size width signed) g.2 ∙ lowest_size width signed (p.value.bits ++ bits_behind (values ps));
    }

pub concat_works : (w : World) (ps : List (Part w)) → KindWorks w (by_steps (concat_steps (codes ps))) (all_flat (flats ps)) (1 + most (rooms ps)) (λ width signed. bits_behind (values ps))
concat_works w ps = record {
  steady = λ d one other e. e;
  fronts = λ width signed d rest. concat_front w width signed d ps rest;
  ends = λ is width signed d rest cells room. concat_end w width signed d ps rest cells is room;
}

-- the inputs of a gate

abbrev pub one_bits : List Operand → List Bit
one_bits os = flat_map (λ (o : Operand). at_size 1 false o.bits) os

inputs_front : (w : World) (o : GateOp) (width : ℕ) (signed : Bool) (d : ℕ) (ps : List (Part w)) (rest : List Step) → EndsIn (inputs_steps o width signed d (codes ps) rest) rest
inputs_front w o width signed d [] rest = no_front rest
inputs_front w o width signed d (p ∷ ps) rest =
    let s : Step = step_at d width signed (op.GateInput o (p.code.input (suc d))) in
    let more : List Step = inputs_steps o width signed d (codes ps) rest in
    both_fronts _ _ rest (p.works.fronts (suc d) (s ∷ more)) (both_fronts _ _ rest (one_front s more) (inputs_front w o width signed d ps rest))

inputs_end : (w : World) (o : GateOp) (width : ℕ) (signed : Bool) (d : ℕ) (ps : List (Part w)) (rest : List Step) (cells : Cells) (so_far : Bit)
    → all_flat (flats ps) ≡ true → suc d + most (rooms ps) ≤ length cells → value_at w.fill cells d ≡ so_far ∷ []
    → (now : Cells) × Ran w (inputs_steps o width signed d (codes ps) rest) rest d cells now × (value_at w.fill now d ≡ fold_inputs (gate_table o) so_far (one_bits (values ps)) ∷ [])
unfolding fold_inputs
inputs_end w o width signed d [] rest cells so_far is room h = (cells, ran_none w rest d cells, h)
inputs_end w o width signed d (p ∷ ps) rest cells so_far is room h =
    let s : Step = step_at d width signed (op.GateInput o (p.code.input (suc d))) in
    let more : List Step = inputs_steps o width signed d (codes ps) rest in
    let e = p.works.ends (and_left p.flat (all_flat (flats ps)) is) (suc d) (s ∷ more) cells (omega arith) in
    let b : Bit = upper_bit (at_size 1 false p.value.bits) in
    let v : List Bit = gate_table o so_far b ∷ [] in
    let held : value_at w.fill e.now d ≡ so_far ∷ [] = e.ran.kept d (omega arith) ∙ h in
    let given : input_bits w e.now (p.code.input (suc d)) ≡ p.value.bits = ap (λ (o : Operand). o.bits) e.gives in
    let becomes : after w e.now s ≡ put e.now d v =
    ap (λ x. put e.now d (gate_table o (upper_bit x) (upper_bit (at_size 1 false (input_bits w e.now (p.code.input (suc d))))) ∷ [])) held
    ∙ ap (λ x. put e.now d (gate_table o so_far (upper_bit (at_size 1 false x)) ∷ [])) given in
    let lower : Ran w (p.code.steps (suc d) (s ∷ more)) (s ∷ more) d cells e.now = record { runs = e.ran.runs; size = e.ran.size; kept = λ n h. e.ran.kept n (omega arith) } in
    let ran = ran_more w (p.code.steps (suc d) (s ∷ more)) more s d cells e.now v lower refl becomes in
    let next : Cells = put e.now d v in
    let fits : suc d + most (rooms ps) ≤ length next = omega (arith, ran.size) in
    let g = inputs_end w o width signed d ps rest next (gate_table o so_far b) (and_right p.flat (all_flat (flats ps)) is) fits (put_same w e.now d v (omega (arith, e.ran.size))) in
    let one : b ∷ [] ≡ at_size 1 false p.value.bits = sym (one_bit (at_size 1 false p.value.bits) (at_size_length 1 false p.value.bits)) in
    (g.0, ran_both w (p.code.steps (suc d) (s ∷ more)) more rest d d cells next g.0 (omega arith) ran g.1, g.2 ∙ ap (λ xs. fold_inputs (gate_table o) so_far (xs ++ one_bits (values ps)) ∷ []) one)

-- a gate is its table folded over its inputs
gate_is : (fill : Bit) (o : GateOp) (inputs : List Bit) → gate_output o (fold_inputs (gate_table o) (gate_start fill o) inputs) ≡ gate_bit fill o inputs
gate_is fill gate.And inputs = refl
gate_is fill gate.Nand inputs = refl
gate_is fill gate.Or inputs = refl
gate_is fill gate.Nor inputs = refl
gate_is fill gate.Xor inputs = refl
gate_is fill gate.Xnor inputs = refl
gate_is fill gate.Buf inputs = refl
gate_is fill gate.Not inputs = refl

gate_ends : (w : World) (o : GateOp) (width : ℕ) (signed : Bool) (d : ℕ) (ps : List (Part w)) (rest : List Step) (cells : Cells) → all_flat (flats ps) ≡ true → d + (1 + most (rooms ps)) ≤ length cells
    → KindEnds w (gate_steps o (codes ps) width signed d rest) rest d cells (Cell d) width signed (gate_bit w.fill o (one_bits (values ps)) ∷ [])
gate_ends w o width signed d ps rest cells is room =
    let s : Step = step_at d width signed (op.GateStart o) in
    let f : Step = step_at d width signed (op.GateEnd o) in
    let more : List Step = inputs_steps o width signed d (codes ps) (f ∷ rest) in
    let v : List Bit = gate_start w.fill o ∷ [] in
    let started = ran_more w (s ∷ more) more s d cells cells v (ran_none w (s ∷ more) d cells) refl refl in
    let next : Cells = put cells d v in
    let g = inputs_end w o width signed d ps (f ∷ rest) next (gate_start w.fill o) is (omega (arith, started.size)) (put_same w cells d v (omega arith)) in
    let u : List Bit = gate_bit w.fill o (one_bits (values ps)) ∷ [] in
    let becomes : after w g.0 f ≡ put g.0 d u = ap (λ x. put g.0 d (gate_output o (upper_bit x) ∷ [])) g.2 ∙ ap (λ b. put g.0 d (b ∷ [])) (gate_is w.fill o (one_bits (values ps))) in
    let taken_in = ran_both w (s ∷ more) more (f ∷ rest) d d cells next g.0 (omega arith) started g.1 in
    record {
      now = put g.0 d u;
      ran = ran_more w (s ∷ more) rest f d cells g.0 u taken_in refl becomes;
      gives = ap (at_size width signed) (put_same w g.0 d u (omega (arith, taken_in.size)));
    }

gate_front : (w : World) (o : GateOp) (width : ℕ) (signed : Bool) (d : ℕ) (ps : List (Part w)) (rest : List Step) → EndsIn (gate_steps o (codes ps) width signed d rest) rest
gate_front w o width signed d ps rest =
    let f : Step = step_at d width signed (op.GateEnd o) in
    both_fronts _ _ rest (one_front (step_at d width signed (op.GateStart o)) (inputs_steps o width signed d (codes ps) (f ∷ rest)))
    (both_fronts _ _ rest (inputs_front w o width signed d ps (f ∷ rest)) (one_front f rest))

pub gate_works : (w : World) (o : GateOp) (ps : List (Part w)) → KindWorks w (by_steps (gate_steps o (codes ps))) (all_flat (flats ps)) (1 + most (rooms ps)) (λ width signed. gate_bit w.fill o (one_bits (values ps)) ∷ [])
gate_works w o ps = record {
  steady = λ d one other e. e;
  fronts = λ width signed d rest. gate_front w o width signed d ps rest;
  ends = λ is width signed d rest cells room. gate_ends w o width signed d ps rest cells is room;
}
