-- Words that aren't the body of a command ask for nothing behind its word.
use Rattle.std.proofs.Common.{map, string_bytes}
use Rattle.command_words.proofs.Bodies as bodies
use Rattle.command_words.proofs.reading.read_body.Goals as goal

pub returns-in-None : goal.returns-in-None
returns-in-None c =
    bodies.no_flat c.args.own c.args.first.now (map string_bytes c.args.words.now) c.in-Flat.is (rw c.in-None.is at c.in_ok-call-in-Flat.ensures.none)

pub returns-in-None-2 : goal.returns-in-None-2
returns-in-None-2 c =
    bodies.no_plan c.args.own c.args.first.now (map string_bytes c.args.words.now) c.in-Plan.is (rw c.in-None-2.is at c.in_ok-change-in-Plan.ensures)

pub returns-in-None-3 : goal.returns-in-None-3
returns-in-None-3 c =
    bodies.no_parts c.args.own c.args.first.now (map string_bytes c.args.words.now) c.in-Parts.is (rw c.in-None-3.is at c.in_ok-change-in-Parts.ensures)

pub returns-in-None-4 : goal.returns-in-None-4
returns-in-None-4 c =
    bodies.no_roll c.args.own c.args.first.now (map string_bytes c.args.words.now) c.in-Roll.is
    (λ n m change is. (rw c.in-None-4.is at c.in_ok-roll-in-Roll.ensures) (record { run = n; within = m; change = change }) is)

pub returns-in-Apply : goal.returns-in-Apply
returns-in-Apply c = bodies.no_apply c.args.own c.args.first.now (map string_bytes c.args.words.now) c.in-Apply.is

pub returns-in-None-read_file : goal.returns-in-None-read_file
returns-in-None-read_file c =
    bodies.no_replay c.args.own c.args.first.now (map string_bytes c.args.words.now) c.in-Replay.is c.in-None-read_file.ensures

pub returns-in-None-read_end : goal.returns-in-None-read_end
returns-in-None-read_end c =
    bodies.no_step c.args.own c.args.first.now (map string_bytes c.args.words.now) c.in-Step.is (c.in-None-read_end.ensures tt)

pub returns-in-None-said_threads : goal.returns-in-None-said_threads
returns-in-None-said_threads c =
    bodies.no_live c.args.own c.args.first.now (map string_bytes c.args.words.now) c.in-Live.is
    (λ n m is. c.in-None-said_threads.ensures (record { workers = n; observers = m }) is)

pub returns-in-None-read_file-2 : goal.returns-in-None-read_file-2
returns-in-None-read_file-2 c =
    bodies.no_check c.args.own c.args.first.now (map string_bytes c.args.words.now) c.in-Check.is c.in-None-read_file-2.ensures

pub returns-in-None-read_end-2 : goal.returns-in-None-read_end-2
returns-in-None-read_end-2 c =
    bodies.no_upgrade c.args.own c.args.first.now (map string_bytes c.args.words.now) c.in-Upgrade.is (c.in-None-read_end-2.ensures tt)
