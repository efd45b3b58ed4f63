-- What a log that was opened tells of the bytes.
use Rattle.std.specs.Prelude.{◌≡◌, ℕ, ◌+◌, ◌<◌, ◌==◌, true, false, List, ◌++◌, All, map, length, take, drop, slice_index, Option, None, Some}
use Rattle.vod_log.specs.Format.{Entry, Reading, reading, record_at, committed}
use Rattle.vod_log.specs.declared.header.Header.{Header}
use Rattle.vod_log.specs.declared.log.Record.{Record}
use Rattle.vod_log.specs.declared.log.LogFault.{LogFault}
use Rattle.vod_log.specs.declared.log.LogFault.TheVariants.{NotALog}

-- the records, the closed gate behind them, and the last header
pub record LogView : Type 0 where
  pub records : List Record
  pub gate : ℕ
  pub last : Option Header

-- where the records stand, and their headers
abbrev pub records_of : List Entry → List Record
records_of es = map (λ e. e.entry) es

-- a record is inside the bytes: its header, its payload, and the gate behind them
abbrev pub IsPlaced : List ℕ → Record → Type 0
IsPlaced bytes r = r.at + 49 + r.header.length < length bytes

-- the bytes behind the header of a record, as many as its payload has
abbrev pub payload_at : List ℕ → Record → List ℕ
payload_at bytes r = take r.header.length (drop (r.at + 49) bytes)

-- these records are inside the bytes, and behind their headers stand the payloads that are committed
pub record ArePlaced (bytes : List ℕ) (records : List Record) : Type 0 where
  pub inside : All (IsPlaced bytes) records
  pub payloads : map (payload_at bytes) records ≡ map (λ e. e.payload) (committed bytes).entries

-- a log has the records of a reading that is framed, and ends where it does
pub record IsLogOf (r : Reading) (log : LogView) : Type 0 where
  pub framed : r.framed ≡ true
  pub records : log.records ≡ records_of r.entries
  pub gate_is : log.gate ≡ r.gate
  pub last_is : log.last ≡ r.last

-- a reading ends at a wrong record behind this gate
pub record IsWrongAt (r : Reading) (at : ℕ) : Type 0 where
  pub framed : r.framed ≡ false
  pub gate_is : r.gate ≡ at

-- a fact about the gate of a wrong record, where there is one
abbrev pub OnNotALog : LogFault → (ℕ → Type 0) → Type 0
OnNotALog (NotALog at) P = P at
OnNotALog fault P = Unit {0}

-- the gate is closed where there is no header, and else a record with this header is behind it
abbrev pub IsNextAt : List ℕ → ℕ → Option Header → Option Header → Type 0
IsNextAt bytes gate last None = slice_index bytes gate ≡ 0
IsNextAt bytes gate last (Some h) = ((slice_index bytes gate == 0) ≡ false) × (record_at last (drop (gate + 1) bytes) ≡ Some h)

-- the gate is open, and no right record is behind it
pub record IsWrongNext (bytes : List ℕ) (gate : ℕ) (last : Option Header) : Type 0 where
  pub open_is : (slice_index bytes gate == 0) ≡ false
  pub wrong : record_at last (drop (gate + 1) bytes) ≡ None

-- these records were read, and what is committed is they and what is read from this gate on
pub record IsReadUpTo (bytes : List ℕ) (records : List Record) (gate : ℕ) (last : Option Header) : Type 0 where
  pub entries : records_of (committed bytes).entries ≡ records ++ records_of (reading last 0 gate (drop gate bytes)).entries
  pub framed : (committed bytes).framed ≡ (reading last 0 gate (drop gate bytes)).framed
  pub gate_is : (committed bytes).gate ≡ (reading last 0 gate (drop gate bytes)).gate
  pub last_is : (committed bytes).last ≡ (reading last 0 gate (drop gate bytes)).last
