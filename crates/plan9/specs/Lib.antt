-- What clauses of a program may cite, under this crate's name alone. Where two crates have a file
-- of one name, the file is named here with its subject before that name.
pub mod Words
pub mod Plans
pub mod Forkings
pub mod Known
pub mod Chains
pub mod Watches
pub mod Semaphores
pub mod Callers
pub mod Notings
pub mod Pipes
pub mod Places
pub mod Readings
pub mod Sharings
pub mod Streams
pub mod Within
pub mod Queues
pub mod TimedSharings
pub mod Tickers
pub mod Memberships
pub mod MemberForks
-- notes and flags, and where a process is
pub use Rattle.sync_base.specs.NoteSet
pub use Rattle.sync_base.specs.Flags
pub use Rattle.rendez_words.specs.Process
pub use Rattle.rendez_words.specs.Steps
pub use Rattle.rendez_words.specs.Words as RendezWords
-- a kernel and its processes
pub use Rattle.sleep_core.specs.Limits as KernelLimits
pub use Rattle.sleep_wakeup.specs.Kernel
pub use Rattle.sleep_wakeup.specs.Starts
pub use Rattle.sleep_wakeup.specs.Forks
pub use Rattle.sleep_wakeup.specs.Groups
pub use Rattle.sleep_wakeup.specs.Calls as SleepCalls
pub use Rattle.sleep_wakeup.specs.Actions as SleepActions
-- pipes
pub use Rattle.block_queue.specs.Meaning as QueueMeaning
pub use Rattle.block_queue.specs.Opening as QueueOpening
pub use Rattle.block_queue.specs.Seats as QueueSeats
pub use Rattle.pipe_dev.specs.Ends
pub use Rattle.pipe_dev.specs.Finishing
pub use Rattle.pipe_dev.specs.Laws as PipeLaws
pub use Rattle.pipe_dev.specs.Openings
pub use Rattle.pipe_dev.specs.ReadCalls
pub use Rattle.pipe_dev.specs.Rendezes
pub use Rattle.pipe_dev.specs.Sides
pub use Rattle.pipe_dev.specs.WriteCalls
-- seats at an object under a lock
pub use Rattle.kernel_lock.specs.Calls as LockCalls
pub use Rattle.kernel_lock.specs.Seats as LockSeats
-- timers
pub use Rattle.timer_list.specs.Seats as TimerSeats
pub use Rattle.timer_list.specs.Sleeping as TimedSleeping
pub use Rattle.timer_list.specs.Ticking
pub use Rattle.timer_list.specs.TimerLaws
pub use Rattle.timer_list.specs.Timers
pub use Rattle.timer_list.specs.Timing as TimedCalls
-- semaphores
pub use Rattle.semaphore.specs.Acquiring
pub use Rattle.semaphore.specs.Opening as SemaOpening
pub use Rattle.semaphore.specs.Releasing
pub use Rattle.semaphore.specs.Seats as SemaSeats
pub use Rattle.semaphore.specs.SemaLaws
pub use Rattle.semaphore.specs.Timing
-- queues of values
pub use Rattle.messages.specs.Handles
pub use Rattle.messages.specs.HangingUp
pub use Rattle.messages.specs.Known as QueueKnown
pub use Rattle.messages.specs.MessageLaws
pub use Rattle.messages.specs.Opening as MessageOpening
pub use Rattle.messages.specs.Receiving
pub use Rattle.messages.specs.Sending
-- teams
pub use Rattle.together.specs.Teams
-- how a call waits
pub use Rattle.waiting.specs.Runners
pub use Rattle.waiting.specs.Waiting
-- tag spaces
pub use Rattle.tag_space.specs.Asking as SpaceAsking
pub use Rattle.tag_space.specs.Forks as SpaceForks
pub use Rattle.tag_space.specs.Laws as SpaceLaws
pub use Rattle.tag_space.specs.Members
pub use Rattle.tag_space.specs.Outcome
pub use Rattle.tag_space.specs.Spaces
