-- Power-up has what holds of reached states, and each call keeps it, so every sequence of calls does.
use Rattle.std.proofs.Common.{None}
use mathlib.Core.Path.{◌≡◌}
use mathlib.Core.Bool.{◌||◌, not}
use mathlib.Core.Logic.{◌⊎◌}
use mathlib.Core.List.{List, [], ◌∷◌}
use Prim.Native.Nat.{ℕ, ◌≤◌}
use native.Mathlib.Omega.{arith}
use lib.Dec.{T}
use mir.Facts.{eqb_yes, T_not, ltb_no, eqb_yes, and_yes}
use mir.Syntax.{w16}
use mir.Val.{to_z}
use Rattle.faults.proofs.Bits.{old_stays, new_bit, bit_flag, none_within, both_within, flag_within}
use Rattle.states.specs.States.{is}
use Rattle.states.specs.declared.State.{State}
use Rattle.settings.specs.Settings.{meant, FaultEnable, HallAngleOffset}
use Rattle.verdicts.specs.Table.{verdict}
use Rattle.drive.specs.Refusals.{highest_pattern, load_rows, cycle_rows, tick_rows}
use Rattle.drive.specs.Flags.{always_live}
use Rattle.drive.specs.Causes.{cause_bits}
use Rattle.drive.specs.Calls as Calls
use Rattle.drive.specs.Calls.{power_up, fresh, loaded, sample, cycled}
use Rattle.images.specs.Image.{fifteen}
use Rattle.images.specs.Reads.{read_rows}
use Rattle.drive.specs.Blocks as Blocks
use Rattle.drive.specs.Blocks.{block_numbers, block_rows, marked, left_by_block}
use Rattle.drive.specs.Ticks as Ticks
use Rattle.drive.specs.Ticks.{ticked}
use Rattle.drive.specs.declared.Drive.{Drive}
use Rattle.fields.specs.declared.Cycle.{Cycle}
use Rattle.fields.specs.declared.Tick.{Tick}
use Rattle.states.specs.declared.State.TheVariants.{Stop}
use Rattle.hall.specs.declared.layout.Sensors.{Sensors}
use Rattle.theorems_reached.specs.Reached.{Loaded, Reached}
use Rattle.drive.specs.AnyCall.{Call, reply}
use Rattle.theorems_history.specs.Log.{state_after}
use Rattle.theorems_reached.specs.Machine.{machine}
use Rattle.verdicts.proofs.Passed.{passed, both_passed}
use Rattle.drive.proofs.Settles.{settled}
use Rattle.theorems_reached.proofs.Loads.{accepted_settings}
use Rattle.theorems_reached.proofs.Hall.{hall_power_up, sampled_within, dead_flagged}
use Rattle.theorems_reached.proofs.Offsets.{unmeasured_within, summed_in}
use Rattle.theorems_reached.proofs.Flags.{same_but_hall}
use Rattle.theorems_reached.proofs.Run.{at_rest_in}
use Rattle.theorems_reached.proofs.Ticks.{ticked_reached}

-- "clears everything else to power-up values": of power-up and of an accepted load alike
fresh_reached :
    (s : State) (settings : List ℕ) (sensors : Sensors)
    → T (is 0 s || is 1 s)
    → (T (is 0 s) → (fresh s settings sensors ≡ power_up) ⊎ (fresh s settings sensors ≡ marked power_up))
    → (T (not (is 0 s)) → Loaded settings)
    → Reached (fresh s settings sensors)
fresh_reached s settings sensors first idle loaded = grind (arith, hall_power_up, at_rest_in, unmeasured_within, none_within)

pub reached_power_up : Reached power_up
reached_power_up = grind (arith, fresh_reached)

-- flag 12 at power-up
reached_marked : Reached (marked power_up)
reached_marked = grind (arith, reached_power_up)

-- Each call keeps it, accepted or refused, whatever it is told.
pub load_keeps : (d : Drive) (numbers : List ℕ) → Reached d → Reached (Calls.load d numbers).drive
unfolding Calls.load
load_keeps d numbers r =
    settled Reached None (verdict (load_rows d numbers)) (loaded (meant numbers)) d
    (λ e. grind (arith, fresh_reached Stop, accepted_settings d numbers))
    r

-- what a refused block load leaves: in IDLE flag 12 may stand in it
pub marked_reached : (d : Drive) → Reached d → T (is 0 d.state) → Reached (marked d)
marked_reached d r idle = grind (arith, reached_marked)

pub left_reached : (d : Drive) (image : List ℕ) (block : ℕ) → Reached d → Reached (left_by_block d image block)
left_reached d image block r = grind (arith, marked_reached, and_yes)

pub block_load_keeps : (d : Drive) (image : List ℕ) (block : ℕ) → Reached d → Reached (Blocks.block_load d image block).drive
unfolding Blocks.block_load
block_load_keeps d image block r =
    settled Reached None (verdict (block_rows d image block)) (loaded (meant (block_numbers image block))) (left_by_block d image block)
    (λ e.
    let own = (both_passed (read_rows fifteen image block) (load_rows d (block_numbers image block)) tt e).1 in
    fresh_reached Stop _ _ tt (λ t. absurd t) (λ t. accepted_settings d (block_numbers image block) own))
    (left_reached d image block r)

-- an accepted cycle: outside IDLE, with a pattern of the sensors and samples of at most 4095
pub cycled_reached :
    (d : Drive) (c : Cycle)
    → Reached d
    → T (not (is 0 d.state))
    → c.pattern ≤ highest_pattern d.sensors
    → c.first ≤ 4095
    → c.second ≤ 4095
    → Reached (cycled d c)
unfolding cycled
cycled_reached d c r outside pattern first second =
    record {
      idle = λ t. absurd (T_not (is 0 d.state) t outside);
      settings = r.settings;
      hall = sampled_within d.sensors d.hall r.hall c.pattern (to_z w16 (HallAngleOffset d.settings)) pattern;
      cycles = omega arith;
      ticks = r.ticks;
      retries = r.retries;
      run = r.run;
      offsets = summed_in d r c first second;
      armed = r.armed;
      flags =
          record {
            known = λ awake. both_within cause_bits d.flags _ (r.flags.known outside)
                (flag_within cause_bits 15 (sample d c).flagged tt);
            quiet = λ awake t. rw (same_but_hall d.settings d.flags (sample d c).flagged) (r.flags.quiet awake t);
            tripped = λ t. old_stays always_live (FaultEnable d.settings) d.flags _ (r.flags.tripped t);
            dead = λ live two.
                new_bit 15 d.flags _ (bit_flag 15 (sample d c).flagged (dead_flagged d.sensors d.hall c.pattern _ two));
          };
    }

pub cycle_keeps : (d : Drive) (c : Cycle) → Reached d → Reached (Calls.cycle d c).drive
unfolding Calls.cycle
cycle_keeps d c r = grind (arith, passed (cycle_rows d c) tt, eqb_yes, ltb_no, cycled_reached d c r)

pub tick_keeps : (d : Drive) (t : Tick) → Reached d → Reached (Ticks.tick d t).drive
unfolding Ticks.tick
tick_keeps d t r = grind (arith, passed (tick_rows d t) tt, eqb_yes, ltb_no, ticked_reached d r t)

pub call_keeps : (d : Drive) (call : Call) → Reached d → Reached (reply d call).drive
call_keeps d call r = grind (arith, load_keeps, cycle_keeps, tick_keeps, block_load_keeps)

-- Every state that a sequence of calls reaches from power-up.
pub every_reached : (calls : List Call) → Reached (state_after machine calls)
unfolding state_after
every_reached [] = reached_power_up
every_reached (call ∷ earlier) = call_keeps (state_after machine earlier) call (every_reached earlier)
