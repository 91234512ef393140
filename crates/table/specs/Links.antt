-- The flows that a row names: its operands, beat and source, by field, through the one list of kinds.
use Rattle.std.specs.Prelude.{ℕ, Bool, true, false, ◌&&◌, ◌||◌, eqb}
use Rattle.table.specs.declared.FlowFields.{FlowFields}
use Rattle.table.specs.Rows.{Field, operand, source, copies, period, ticks, value, unused, Kind, kind_at, Words}

-- whether a field holds a flow's number
abbrev pub is_flow : Field → Bool
is_flow operand = true
is_flow source = true
is_flow copies = false
is_flow period = false
is_flow ticks = false
is_flow value = false
is_flow unused = false

-- which fields of a kind do; a number that is no kind has no fields
abbrev pub flow_fields : ℕ → FlowFields
flow_fields n = record { one = is_flow (kind_at n).one; two = is_flow (kind_at n).two; three = is_flow (kind_at n).three }

-- a field that holds y names flow x
abbrev pub field_names : Field → ℕ → ℕ → Bool
field_names t y x = is_flow t && eqb y x

-- a row names flow x
unfoldable pub names : Words → ℕ → Bool
names w x =
    let k : Kind = kind_at w.kind in
    field_names k.one w.one x || (field_names k.two w.two x || field_names k.three w.three x)
