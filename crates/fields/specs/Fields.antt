-- Document 01, "Cycle" and "Tick": the fields and their ranges, as rows of refusal 1, "cycle or tick field out of range", with the place
-- "first bad field, from 1".
use Rattle.std.specs.Prelude.{ℕ, List, [], ◌∷◌, ltb, nat_abs}
use Rattle.verdicts.specs.Table.{Row, row}
use Rattle.fields.specs.declared.Cycle.{Cycle}
use Rattle.fields.specs.declared.Tick.{Tick}

-- "Fields: Hall pattern 0..7, two current samples 0..4095.": the highest pattern is the motor's
abbrev pub cycle_fields : ℕ → Cycle → List Row
cycle_fields highest c = row 1 1 (ltb highest c.pattern) ∷ row 1 2 (ltb 4095 c.first) ∷ row 1 3 (ltb 4095 c.second) ∷ []

-- "TrqRef (-4095..4095); speed, target (-32767..32767)."
abbrev pub signed_fields : Tick → List Row
signed_fields t =
    row 1 9 (ltb 4095 (nat_abs t.trq_ref))
    ∷ row 1 10 (ltb 32767 (nat_abs t.speed))
    ∷ row 1 11 (ltb 32767 (nat_abs t.target))
    ∷ []

-- "Fields: gate kill, clear, command (0..1 each); control, VdcRaw, VdcFilt, temperature number (0..4095, rising with heat);
-- Flx_M (0..65535);" and the three of `signed_fields`
abbrev pub tick_fields : Tick → List Row
tick_fields t =
    row 1 1 (ltb 1 t.gate_kill)
    ∷ row 1 2 (ltb 1 t.clear)
    ∷ row 1 3 (ltb 1 t.command)
    ∷ row 1 4 (ltb 4095 t.control)
    ∷ row 1 5 (ltb 4095 t.vdc_raw)
    ∷ row 1 6 (ltb 4095 t.vdc_filt)
    ∷ row 1 7 (ltb 4095 t.temperature)
    ∷ row 1 8 (ltb 65535 t.flx_m)
    ∷ signed_fields t
