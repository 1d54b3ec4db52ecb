-- Document 01, "Causes": which of them stand at a tick, and the word of their flags.
use Rattle.std.specs.Prelude.{ℕ, Bool, true, ◌&&◌, List, [], ◌∷◌, ◌==◌, nat_lt}
use Rattle.faults.specs.Word.{together}
use Rattle.settings.specs.Settings.{VdcOvLevel, VdcLvLevel, CriticalOvLevel, Tshutdown}
use Rattle.fields.specs.declared.Tick.{Tick}
use Rattle.motor.specs.declared.Watched.{Watched}

-- "0: gate kill is 1. 1: VdcRaw above CriticalOvLevel. 2: VdcFilt above VdcOvLevel. 3: VdcFilt below VdcLvLevel. 6: temperature
-- above Tshutdown. 15: dead streak is 2."; "Bits 4, 7 and 14 count only ticks taken in MOTORRUN"
abbrev pub cause_flags : (settings : List ℕ) (running : Bool) (dead_streak : ℕ) → Tick → Watched → List (ℕ × Bool)
cause_flags s running dead_streak t w =
    (0, (t.gate_kill == 1))
    ∷ (1, nat_lt (CriticalOvLevel s) t.vdc_raw)
    ∷ (2, nat_lt (VdcOvLevel s) t.vdc_filt)
    ∷ (3, nat_lt t.vdc_filt (VdcLvLevel s))
    ∷ (4, running && w.flux)
    ∷ (6, nat_lt (Tshutdown s) t.temperature)
    ∷ (7, running && w.locked)
    ∷ (14, running && w.timeout)
    ∷ (15, (dead_streak == 2))
    ∷ []

-- the bits that a cause or a sample ever sets, the same nine
abbrev pub cause_bits : ℕ
cause_bits =
    together
    ((0, true) ∷ (1, true) ∷ (2, true) ∷ (3, true) ∷ (4, true) ∷ (6, true) ∷ (7, true) ∷ (14, true) ∷ (15, true) ∷ [])

unfoldable pub causes : (settings : List ℕ) (running : Bool) (dead_streak : ℕ) → Tick → Watched → ℕ
causes s running dead_streak t w = together (cause_flags s running dead_streak t w)
