-- Every definition opened, so that the worked examples are computed.
-- Assumes nothing.
use Rattle.basics.specs.Lists.{tabulate, blocks, padded, passing, member, any, without}
use Rattle.basics.specs.Tests.{◌and◌, ◌or◌, ◌implies◌, some, all, least, count}
use Rattle.bits.specs.Bit.{collect, insert, remove, union, common, minus, lowest, count as bits_count}
use Rattle.values.specs.Value.{hold, constant, larger, smaller, less, choose, served_before, exact, result}
use Rattle.grammar.specs.Reading.{present, ranged, header, symbol_fault, start_class, left_fault, defined_below, argument_fault, function_fault, body_fault, complete, rule_before, rule_fault, left_over, read_table}
use Rattle.grammar.specs.Table.{kind, attributes, mask, argument_words, function_at, rule_at, right_length, symbol_of, functions, target, operation, argument, arguments, occurrence, inherited_at, defining_class, defining}
use Rattle.grammar.specs.Verdicts.{◌then◌, unless, each}
use Rattle.relations.specs.Computed.{dp, occurrences, arc_in, induced_arc, idp, idp_path, induced_at, is_induced, round, same_state, rounds, ids_of}
use Rattle.relations.specs.Paths.{path}
use Rattle.sets.specs.Computed.{takes, placed_up_to, sets_of_symbol, sets_of}
use Rattle.sets.specs.Paper.{of_class}
use Rattle.sets.specs.Visits.{set_number, highest, last_set, visits, visit_of_set, visit_of}
use Rattle.order.specs.Computed.{beside_arc, edp, edp_path, has_cycle, circular, cycle_rule, cycle_occurrence}
use Rattle.sequences.specs.Actions.{decode, belongs, is_action, actions_of, visit_at, inherited_of, synthesized_of, makes}
use Rattle.sequences.specs.Follows.{linked, before_visit, before_leave, besides, follows}
use Rattle.sequences.specs.Order.{ready, first_ready, order, sequence_of}
use Rattle.plans.specs.Answer.{room, idp_paths, edp_paths, after_idp, after_room, after_reading, outcome, sequences_of, accepted_plan, answer_of, rows_after, plan_after}
use Rattle.plans.specs.Buffers.{over, rows_of, sequence_words, plan_of}
use Rattle.trees.specs.Checking.{size_fits, known_word, slot_fits, slots_fit, node_fault, root_is_start, children_fit, names_node, once_child, check_tree}
use Rattle.trees.specs.Equations.{argument_value, function_value}
use Rattle.trees.specs.Tree.{used_slots, symbol_at_node, node_at, cell}
use Rattle.runs.specs.Automaton.{started, function_for, computed, act, action_of, step_on, step, after}
use Rattle.runs.specs.Totals.{total_up_to, total}
use Rattle.runs.specs.Run.{idle, last_answer, run_on, ran, run_answer, values_after}
use Rattle.plans.specs.Sequences.{sequence_length, action_at}
use Rattle.text.specs.Lines.{digits, decimal, spaced, line}
use Rattle.text.specs.Listing.{refusal_line, first_line, symbol_line, rule_line, plan_text, outcome_text, table_text, words_of, bytes_text, listing}
use Rattle.examples.specs.Claims.{planned, ran_g}

unfoldable pub opened : Unit {0}
unfolding tabulate blocks padded passing member any without ◌and◌ ◌or◌ ◌implies◌ some all least count collect insert remove union common minus lowest bits_count hold constant larger smaller less choose served_before exact result present ranged header symbol_fault start_class left_fault defined_below argument_fault function_fault body_fault complete rule_before rule_fault left_over read_table kind attributes mask argument_words function_at rule_at right_length symbol_of functions target operation argument arguments occurrence inherited_at defining_class defining ◌then◌ unless each dp occurrences arc_in induced_arc idp idp_path induced_at is_induced round same_state rounds ids_of path takes placed_up_to sets_of_symbol sets_of of_class set_number highest last_set visits visit_of_set visit_of beside_arc edp edp_path has_cycle circular cycle_rule cycle_occurrence decode belongs is_action actions_of visit_at inherited_of synthesized_of makes linked before_visit before_leave besides follows ready first_ready order sequence_of room idp_paths edp_paths after_idp after_room after_reading outcome sequences_of accepted_plan answer_of rows_after plan_after over rows_of sequence_words plan_of size_fits known_word slot_fits slots_fit node_fault root_is_start children_fit names_node once_child check_tree argument_value function_value used_slots symbol_at_node node_at cell started function_for computed act action_of step_on step after idle last_answer run_on ran total_up_to total run_answer values_after sequence_length action_at digits decimal spaced line refusal_line first_line symbol_line rule_line plan_text outcome_text table_text words_of bytes_text listing planned ran_g
opened = tt
