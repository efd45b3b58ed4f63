-- The committed records of a log that was opened.
use Rattle.std.proofs.Common.{◌≡◌, ℕ, List, [], ◌∷◌, length, drop, get_or, map, All, refl, sym, ap, ◌∙◌, inr}
use Rattle.std.specs.Prelude.{◌==◌, false}
use Rattle.std.proofs.lemmas.List.Elements.{All-tail}
use Rattle.vod_log.specs.declared.log.Record.{Record}
use Rattle.vod_log.specs.Format.{Entry, committed}
use Rattle.vod_log.specs.Opened.{LogView, payload_at, records_of}
use Rattle.vod_thin_code.specs.Bytes.{IsHead}
use Rattle.vod_thin_replay.specs.Replay.{IsOpened, HoldsSource, IsHeadDamagedAt, entry_at, behind_head}

entry_is : (x : Entry) (r : Record) (payload : List ℕ) → x.entry ≡ r → x.payload ≡ payload → x ≡ record { entry = r; payload = payload }
entry_is x r payload e p = ap (λ y. record { entry = y; payload = x.payload }) e ∙ ap (λ q. record { entry = r; payload = q }) p

entries_are : (bytes : List ℕ) (rs : List Record) (es : List Entry) → rs ≡ records_of es → map (payload_at bytes) rs ≡ map (λ e. e.payload) es → es ≡ map (entry_at bytes) rs
entries_are bytes [] [] same payloads = refl
entries_are bytes [] (x ∷ es) same payloads = absurd cc
entries_are bytes (r ∷ rs) [] same payloads = absurd cc
entries_are bytes (r ∷ rs) (x ∷ es) same payloads =
    let first : r ≡ x.entry = cc in
    let rest : rs ≡ records_of es = cc in
    let payload : payload_at bytes r ≡ x.payload = cc in
    let more : map (payload_at bytes) rs ≡ map (λ e. e.payload) es = cc in
    let here : x ≡ entry_at bytes r = entry_is x r (payload_at bytes r) (sym first) (sym payload) in
    ap (λ y. y ∷ es) here ∙ ap (λ ys. entry_at bytes r ∷ ys) (entries_are bytes rs es rest more)

-- they are those that the log has
pub opened_entries : (tells : Type 0) (bytes : List ℕ) (log : LogView) → IsOpened tells bytes log → tells → (committed bytes).entries ≡ map (entry_at bytes) log.records
opened_entries tells bytes log opened told =
    entries_are bytes log.records (committed bytes).entries (opened.log_of told).records (opened.placed told).payloads

-- the first of them
pub opened_first : (tells : Type 0) (bytes : List ℕ) (log : LogView) → IsOpened tells bytes log → tells → (rs : List Record) (d : Record) → rs ≡ log.records → (length rs == 0) ≡ false →
    (committed bytes).entries ≡ entry_at bytes (get_or rs 0 d) ∷ map (entry_at bytes) (drop 1 rs)
opened_first tells bytes log opened told [] d same some = absurd cc
opened_first tells bytes log opened told (r ∷ rs) d same some = opened_entries tells bytes log opened told ∙ ap (map (entry_at bytes)) (sym same)

-- so its source is that of the first
pub source_held : (tells : Type 0) (bytes : List ℕ) (log : LogView) → IsOpened tells bytes log → tells → (rs : List Record) (d : Record) → rs ≡ log.records → (length rs == 0) ≡ false → (interval : ℕ) (source : List ℕ) →
    IsHead (payload_at bytes (get_or rs 0 d)) interval source → HoldsSource bytes source
source_held tells bytes log opened told rs d same some interval source is = record {
  interval = interval;
  head = entry_at bytes (get_or rs 0 d);
  batches = map (entry_at bytes) (drop 1 rs);
  entries = opened_first tells bytes log opened told rs d same some;
  is_head = is;
}

-- and it has none where that is no head
pub source_missing : (tells : Type 0) (bytes : List ℕ) (log : LogView) → IsOpened tells bytes log → tells → (rs : List Record) (d : Record) → rs ≡ log.records → (length rs == 0) ≡ false →
    ((interval : ℕ) (source : List ℕ) → IsHead (payload_at bytes (get_or rs 0 d)) interval source → ⊥) → IsHeadDamagedAt bytes (get_or rs 0 d).at
source_missing tells bytes log opened told rs d same some missing =
    inr
    (record {
      head = entry_at bytes (get_or rs 0 d);
      batches = map (entry_at bytes) (drop 1 rs);
      entries = opened_first tells bytes log opened told rs d same some;
      gate_is = refl;
      no_head = missing;
    })

map_drop : {X Y : Type 0} (f : X → Y) (xs : List X) → drop 1 (map f xs) ≡ map f (drop 1 xs)
map_drop f [] = refl
map_drop f (x ∷ xs) = refl

-- those behind the head
pub opened_behind : (tells : Type 0) (bytes : List ℕ) (log : LogView) → IsOpened tells bytes log → tells → (rs batches : List Record) → rs ≡ log.records → batches ≡ drop 1 rs → map (entry_at bytes) batches ≡ behind_head bytes
opened_behind tells bytes log opened told rs batches same rest =
    ap (λ xs. map (entry_at bytes) xs) rest ∙ sym (map_drop (entry_at bytes) rs) ∙ ap (λ xs. drop 1 (map (entry_at bytes) xs)) same ∙ sym (ap (λ es. drop 1 es) (opened_entries tells bytes log opened told))

-- what holds of all holds of those behind the first
pub All-behind : {X : Type 0} (P : X → Type 0) (xs : List X) → All P xs → All P (drop 1 xs)
All-behind P [] all = all
All-behind P (x ∷ xs) all = All-tail P x xs all
