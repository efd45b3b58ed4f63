-- The first damaged record of a log is one, and none is where all is read.
use Rattle.std.proofs.Common.{◌≡◌, ℕ, List, [], ◌∷◌, ◌++◌, refl, sym, ap, ◌∙◌, subst, inl, inr, ◌⊎◌}
use Rattle.vod_thin_design.specs.declared.thin.Vector.{Vector}
use Rattle.vod_thin_design.specs.Netlist.{Netlist}
use Rattle.vod_thin_design.specs.Vectors.{IsLawful}
use Rattle.vod_log.specs.Format.{Entry}
use Rattle.vod_thin_code.specs.Held.{IsBatch, AreBatches}
use Rattle.vod_thin_script.proofs.Lawful.{lawful_front}
use Rattle.vod_thin_replay.specs.Replay.{IsHeadDamagedAt, AreUpTo, IsReadUpTo, IsDamagedAmong, IsDamagedUpTo, reaching, behind_head}
use Rattle.vod_thin_replay.proofs.Batches.{OneBatch, at_front}

-- behind the batches of a front, this record is a batch that lawful vectors go on with
damaged_apart : (d : Netlist) → OneBatch d → (es : List Entry) (at : ℕ) (damaged : IsDamagedAmong d es at) (back : List Entry) (vs : List Vector) →
    AreBatches d [] (damaged.front ++ damaged.damaged ∷ back) vs → IsLawful d vs → ⊥
damaged_apart d one es at damaged back vs are lawful =
    let there = at_front d one damaged.front [] damaged.damaged back vs damaged.vectors are damaged.batches in
    damaged.refused.no_batch there.0 there.1 (lawful_front d (damaged.vectors ++ there.0) there.2.0 (subst (IsLawful d) there.2.1 lawful))

-- where all is read, no record is damaged
read_apart : (d : Netlist) → OneBatch d → (es : List Entry) (at : ℕ) (vs : List Vector) → AreBatches d [] es vs → IsLawful d vs → IsDamagedAmong d es at → ⊥
read_apart d one es at vs are lawful damaged = damaged_apart d one es at damaged damaged.back vs (subst (λ xs. AreBatches d [] xs vs) damaged.entries are) lawful

-- of two ways to cut a list before an element, they are the same, or one cuts further behind
Order : List Entry → Entry → List Entry → Entry → Type 0
Order f e g x = ((f ≡ g) × (e ≡ x)) ⊎ ((m : List Entry) × (f ≡ g ++ x ∷ m)) ⊎ ((m : List Entry) × (g ≡ f ++ e ∷ m))

order : (f : List Entry) (e : Entry) (b : List Entry) (g : List Entry) (x : Entry) (c : List Entry) → f ++ e ∷ b ≡ g ++ x ∷ c → Order f e g x
unfolding Order
order [] e b [] x c same = let heads : e ∷ b ≡ x ∷ c = same in let here : e ≡ x = cc in inl (refl, here)
order [] e b (y ∷ g) x c same = let heads : e ∷ b ≡ y ∷ (g ++ x ∷ c) = same in let here : e ≡ y = cc in inr (inr (g, ap (λ z. z ∷ g) (sym here)))
order (y ∷ f) e b [] x c same = let heads : y ∷ (f ++ e ∷ b) ≡ x ∷ c = same in let here : y ≡ x = cc in inr (inl (f, ap (λ z. z ∷ f) here))
order (y ∷ f) e b (z ∷ g) x c same =
    let both : y ∷ (f ++ e ∷ b) ≡ z ∷ (g ++ x ∷ c) = same in
    let here : y ≡ z = cc in
    let rest : f ++ e ∷ b ≡ g ++ x ∷ c = cc in
    more here (order f e b g x c rest)
  where
    more : y ≡ z → Order f e g x → Order (y ∷ f) e (z ∷ g) x
    more here (inl (fronts, there)) = inl (ap (λ l. y ∷ l) fronts ∙ ap (λ h. h ∷ g) here, there)
    more here (inr (inl (m, longer))) = inr (inl (m, ap (λ l. y ∷ l) longer ∙ ap (λ h. h ∷ (g ++ x ∷ m)) here))
    more here (inr (inr (m, longer))) = inr (inr (m, ap (λ l. z ∷ l) longer ∙ ap (λ h. h ∷ (f ++ e ∷ m)) (sym here)))

-- two damaged records are the same
damaged_one : (d : Netlist) → OneBatch d → (es : List Entry) (at other : ℕ) → IsDamagedAmong d es at → IsDamagedAmong d es other → at ≡ other
unfolding Order
damaged_one d one es at other a b = by_order (order a.front a.damaged a.back b.front b.damaged b.back (sym a.entries ∙ b.entries))
  where
    by_order : Order a.front a.damaged b.front b.damaged → at ≡ other
    by_order (inl (fronts, same)) = a.refused.gate_is ∙ ap (λ (e : Entry). e.entry.at) same ∙ sym b.refused.gate_is
    by_order (inr (inl (m, longer))) = absurd (damaged_apart d one es other b m a.vectors (subst (λ xs. AreBatches d [] xs a.vectors) longer a.batches) a.refused.lawful)
    by_order (inr (inr (m, longer))) = absurd (damaged_apart d one es at a m b.vectors (subst (λ xs. AreBatches d [] xs b.vectors) longer b.batches) b.refused.lawful)

pub read_up_to : (d : Netlist) → OneBatch d → (bytes : List ℕ) (to : ℕ) (vs : List Vector) (at : ℕ) → IsReadUpTo d bytes to vs → IsDamagedUpTo d bytes to at → ⊥
read_up_to d one bytes to vs at read = read_apart d one (reaching to 0 (behind_head bytes)) at vs read.batches read.lawful

pub one_up_to : (d : Netlist) → OneBatch d → (bytes : List ℕ) (to at other : ℕ) → IsDamagedUpTo d bytes to at → IsDamagedUpTo d bytes to other → at ≡ other
one_up_to d one bytes to at other = damaged_one d one (reaching to 0 (behind_head bytes)) at other

-- the head is damaged at one gate
pub one_head_damaged : (bytes : List ℕ) (at other : ℕ) → IsHeadDamagedAt bytes at → IsHeadDamagedAt bytes other → at ≡ other
one_head_damaged bytes at other (inl a) (inl b) = a.1 ∙ sym b.1
one_head_damaged bytes at other (inl a) (inr b) = absurd (let clash : [] ≡ b.head ∷ b.batches = sym a.0 ∙ b.entries in cc)
one_head_damaged bytes at other (inr a) (inl b) = absurd (let clash : [] ≡ a.head ∷ a.batches = sym b.0 ∙ a.entries in cc)
one_head_damaged bytes at other (inr a) (inr b) =
    let both : a.head ∷ a.batches ≡ b.head ∷ b.batches = sym a.entries ∙ b.entries in
    let same : a.head ≡ b.head = cc in
    a.gate_is ∙ ap (λ (e : Entry). e.entry.at) same ∙ sym b.gate_is
