-- What `why` counts for whoever looks for a loose plug, of any log: the dead and stray letters since the last accepted load, those in a row
-- up to the newest sample, and the pattern that lit bit 15. The code hears one call after the other (`onlooker` Plug.antt `plug_after`);
-- here each number is told of the log as a whole.
use Rattle.std.specs.Prelude.{ℕ, suc, ◌≤◌, ◌<◌, ◌^◌, ◌≡◌, Bool, false, not, ◌&&◌, ◌||◌, cond, [], ◌∷◌, eqb, length}
use Prim.Native.Char.{code}
use Rattle.faults.specs.Word.{bit}
use Rattle.theorems_history.specs.Log.{Entry}
use Rattle.drive.specs.Answer.{letter}
use Rattle.drive.specs.AnyCall.{Call, loads, cycles, ticks, block_loads}
use Rattle.drive.specs.declared.answer.Answer.{Answer}
use Rattle.onlooker.specs.Past.{most}
use Rattle.onlooker.specs.Plug.{firm, plug_after}
use Rattle.onlooker.specs.declared.plug.Plug.{Plug}
use Rattle.theorems_demands.specs.FlagTwelve.{loads_now}
use Rattle.theorems_demands.specs.Stalled.{Log}

-- a cycle's pattern
abbrev pub pattern_of : Call → ℕ
pattern_of (loads numbers) = 0
pattern_of (cycles c) = c.pattern
pattern_of (ticks t) = 0
pattern_of (block_loads image block) = 0

-- the code's plug after a log
unfoldable pub plug_of : Log → Plug
plug_of [] = firm
plug_of (e ∷ past) = plug_after (plug_of past) (loads_now e) (pattern_of e.call) e.answer

-- ---- of the log as a whole

-- what came behind the last accepted load
unfoldable pub since_load : Log → Log
since_load [] = []
since_load (e ∷ past) = cond (loads_now e) [] (e ∷ since_load past)

abbrev pub says : ℕ → Entry Call Answer → Bool
says wanted e = eqb (letter e.answer.judged) wanted

-- how many answers have this letter
unfoldable pub count : ℕ → Log → ℕ
count wanted [] = 0
count wanted (e ∷ past) = cond (says wanted e) (suc (count wanted past)) (count wanted past)

-- dead or stray samples in a row, up to the newest sample: an answer without one is passed over
unfoldable pub bad_row : Log → ℕ
bad_row [] = 0
bad_row (e ∷ past) =
    cond (says (code ".") e) (bad_row past) (cond (says (code "D") e || says (code "X") e) (suc (bad_row past)) 0)

-- the last answer shows bit 15
abbrev pub shines : Log → Bool
shines [] = false
shines (e ∷ past) = bit 15 e.answer.live

-- the pattern of the call that lit it last
unfoldable pub lit_by : Log → ℕ
lit_by [] = 0
lit_by (e ∷ past) = cond (bit 15 e.answer.live && not (shines past)) (pattern_of e.call) (lit_by past)

-- "The live word has 16 bits"
unfoldable pub Sixteen : Log → Type 0
Sixteen [] = Unit {0}
Sixteen (e ∷ past) = (e.answer.live < 2 ^ 16) × Sixteen past

pub record PlugTold (log : Log) : Type 0 where
  pub dead : (plug_of log).dead ≡ count (code "D") (since_load log)
  pub stray : (plug_of log).stray ≡ count (code "X") (since_load log)
  pub row : (plug_of log).row ≡ bad_row (since_load log)
  pub lit : (plug_of log).lit ≡ shines log
  pub pattern : (plug_of log).pattern ≡ lit_by log

-- of every log, whoever answered, that is no longer than 64 bits count
abbrev pub PlugIsTold : Type 0
PlugIsTold = (log : Log) → length log ≤ most → Sixteen log → PlugTold log
