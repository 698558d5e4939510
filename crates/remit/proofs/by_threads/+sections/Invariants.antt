use Rattle.std.proofs.Common.{◌+◌, ◌*◌, length}
use Rattle.remit.proofs.by_threads.+sections.Given as goal

abbrev pub decreases-write_front_by_threads : goal.decreases-write_front_by_threads
decreases-write_front_by_threads g l = 3 * length l.cuts.now

abbrev pub decreases-write_section_in_front : goal.decreases-write_section_in_front
decreases-write_section_in_front g l = 3 * length l.cuts.now + 2

abbrev pub decreases-write_section_in_front-write : goal.decreases-write_section_in_front-write
decreases-write_section_in_front-write g l = 3 * length l.cuts.now + 1
